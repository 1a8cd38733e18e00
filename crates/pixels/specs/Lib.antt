-- What the contracts of `pixels` and of the crates above it cite.
pub mod Pixels
