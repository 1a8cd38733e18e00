-- What the contracts of `dwt_columns` and of the crate above it cite, and `Inner` for inner functions.
pub mod Columns
pub mod Inner
