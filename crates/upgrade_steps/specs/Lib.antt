-- What the contracts of the reader and of the writer of a pass cite, and `Inner` for inner functions.
pub mod Steps
pub mod Counts
pub mod Cut
pub mod Inner
