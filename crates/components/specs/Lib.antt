-- What the contracts of `components` cite, and `Inner` for inner functions.
pub mod Components
pub mod Inner
