-- Laws of dequantizing, for the proofs here and in the crates above.
pub mod Dequantized
