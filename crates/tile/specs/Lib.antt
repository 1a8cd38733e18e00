-- What the contracts of `tile` cite, and `Inner` for inner functions.
pub mod Tile
pub mod Refused
pub mod Inner
