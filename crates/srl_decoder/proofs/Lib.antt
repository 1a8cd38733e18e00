-- Laws of the SRL decoder, for the proofs here and in the crates above.
pub mod Codes
pub mod Values
pub mod Due
pub mod Turns
pub mod States
pub mod Chains
pub mod Missing
pub mod Most
pub mod Longer
pub mod Filled
