-- What the contracts of `zero_signs` cite, and those of the crates above it.
pub mod ZeroSigns
