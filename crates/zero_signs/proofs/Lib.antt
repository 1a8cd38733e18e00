-- The laws of `zero_signs`, for its own proofs and for those of the crates above it.
pub mod Counted
mod Samples
