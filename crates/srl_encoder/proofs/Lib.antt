-- Laws of the SRL encoder, for the proofs here and in the crates above.
pub mod EncodedCalls
pub mod EncodedValues
pub mod Nonzeros
pub mod Runs
pub mod Sizes
