-- Laws of three components in flat arrays, for the proofs here and in the crates above.
pub mod Copies
pub mod Joined
