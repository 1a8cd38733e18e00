-- What the contracts of `progressive_encoder` cite, and `Inner` for inner functions.
pub mod Encode
pub mod Pending
pub mod Inner
