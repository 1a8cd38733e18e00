-- Laws of SRL, for the proofs here and in the crates above.
pub mod Streamed
pub mod Kept
pub mod Magnitudes
pub mod Resumed
pub mod Trip
pub mod Back
pub mod Missed
