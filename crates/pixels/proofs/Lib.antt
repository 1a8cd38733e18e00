-- Laws of samples, for the proofs here.
mod Sampled
