-- What the contracts of `bands` cite.
pub mod Bands
pub mod Positions
pub mod Tables
