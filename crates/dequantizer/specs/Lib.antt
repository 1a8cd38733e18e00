-- What the contracts of `dequantizer` and of the crates above it cite.
pub mod Dequantize
