-- The laws of `dwt_extrapolate`, for its own proofs and for those of the crates above it.
mod Rows
mod Blocks
pub mod Lengths
