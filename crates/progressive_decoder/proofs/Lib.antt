-- Laws of a pass, read, for the proofs here and in the crates above.
pub mod Bandwise
pub mod Missing
pub mod Listed
pub mod Places
pub mod Steps
pub mod Walks
