-- What the proofs of `srl_held` share.
pub mod WholeStreams
pub mod Samples
