-- Laws of what a list of passes can reach.
pub mod Places
pub mod Streams
pub mod Passes
pub mod Components
pub mod Tiles
pub mod AnyList
pub mod Signs
pub mod Instances
pub mod Undecided
