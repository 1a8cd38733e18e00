-- The laws of `fixed`, for its own proofs and for those of the crates above it.
pub mod Sizes
pub mod Bounds
pub mod Machine
pub mod Clamp
pub mod Wrap
pub mod Shift
pub mod Sign
pub mod Scaled
pub mod Cuts
mod Samples
