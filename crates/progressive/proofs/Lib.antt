-- Laws of the pass, both ways, for the proofs here and in the crates above.
pub mod AnyRule
pub mod OwnCuts
pub mod CutTrip
pub mod Regained
pub mod Missed
pub mod Lengths
pub mod Room
pub mod Samples
