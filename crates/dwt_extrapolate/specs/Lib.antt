-- What the contracts of `dwt_extrapolate` cite.
pub mod Block
pub mod Transform
pub mod Refused
pub mod Made
