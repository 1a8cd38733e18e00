-- The laws of `places`.
pub mod Ones
pub mod Table
