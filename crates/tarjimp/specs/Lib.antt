-- What the contracts of `tarjimp` cite, and `Inner` for inner functions.
pub mod States
pub mod Calls
pub mod Inner
