-- What the contracts of `color` cite, and `Inner` for inner functions.
pub mod Color
pub mod Inner
