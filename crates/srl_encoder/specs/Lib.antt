-- What the contracts of `srl_encoder` cite, and `Inner` for inner functions.
pub mod Encode
pub mod Finish
pub mod Inner
