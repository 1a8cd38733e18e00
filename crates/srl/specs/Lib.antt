-- What the contracts of `srl` cite.
pub mod Laws
pub mod Missing
pub mod Turns
