-- Laws of cuts, of a pass over a tile that is its target cut, and of lists of them.
pub mod Levels
pub mod CutPlaces
pub mod Ladders
pub mod Ends
pub mod CutFits
pub mod Instances
