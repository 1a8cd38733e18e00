-- The laws of `dwt_columns`, for its own proofs and for those of the crate above it.
pub mod Products
pub mod Put
mod Places
mod Fronts
mod RowByRow
pub mod Wide
pub mod Columns
