-- The laws of `tile`, for its own proofs and for those of the crates above it.
pub mod Accepted
