-- What the contracts of both SRL coders cite, and `Inner` for inner functions.
pub mod Rules
pub mod Inner
