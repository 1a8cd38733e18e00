-- What the contracts of `planes` and of the crates above it cite, and `Inner` for inner functions.
pub mod Planes
pub mod Inner
