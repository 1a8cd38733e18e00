-- Laws for the reader and the writer of a pass.
pub mod Sources
pub mod Counts
pub mod Stretches
pub mod CutLists
