-- What the contracts of `progressive` cite.
pub mod Laws
pub mod Refused
pub mod OwnCuts
pub mod Missing
pub mod CutTrip
pub mod Room
pub mod SmallCases
