-- Laws of a pass, written, for the proofs here and in the crates above.
pub mod Placewise
pub mod StreamLengths
mod Rules
mod Classed
mod Held
mod ListedNumbers
mod ListedEvents
mod BothLists
mod StoredStreams
mod BothStreams
mod Pending
