-- Laws of a pass over three components, for the proofs here and in the crates above.
pub mod Passes
