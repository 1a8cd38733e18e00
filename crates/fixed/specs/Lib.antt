-- What the contracts of `fixed` cite, and `Inner` for inner functions.
pub mod Fixed
pub mod Cut
pub mod Inner
