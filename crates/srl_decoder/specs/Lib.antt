-- What the contracts of `srl_decoder` cite, and `Inner` for inner functions.
pub mod Srl
pub mod Missing
pub mod Decode
pub mod Turns
pub mod Inner
