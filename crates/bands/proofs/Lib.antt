-- The laws of `bands`, for its own proofs and for those of the crates above it.
pub mod Every
pub mod Laid
pub mod Spread
pub mod Places
pub mod Spans
