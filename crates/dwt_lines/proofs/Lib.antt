-- The laws of `dwt_lines`, for its own proofs and for those of the crates above it.
pub mod Lines
mod Samples
