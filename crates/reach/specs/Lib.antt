-- What the contracts of `reach` cite: the theorem's statement, and its terms.
pub mod Place
pub mod Component
pub mod Reach
pub mod Corollaries
pub mod Undecided
