-- What the contracts of `bits` cite, and `Inner` for inner functions.
pub mod Bits
pub mod Missing
pub mod Turns
pub mod Written
pub mod Inner
