-- What the contracts of `fitting` cite, and those of the crates above it.
pub mod Place
pub mod Component
pub mod Tested
