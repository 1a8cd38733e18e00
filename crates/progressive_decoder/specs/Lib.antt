-- What the contracts of `progressive_decoder` cite, and `Inner` for inner functions.
pub mod Upgrade
pub mod Inner
