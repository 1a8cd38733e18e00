-- What the contracts of `ladder` cite: the theorem's statement, its corollaries, and the law of levels.
pub mod Levels
pub mod Ladder
pub mod Corollaries
