-- Laws of streams of bits, for the proofs here and in the crates above.
pub mod Numbers
pub mod Ones
pub mod Tops
pub mod Places
pub mod Past
pub mod Missing
pub mod Turns
pub mod Powers
pub mod Puts
pub mod Packed
pub mod Words
pub mod Holds
pub mod Longer
