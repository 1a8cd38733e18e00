-- Laws of what fits, and of levels.
pub mod Level
pub mod Families
pub mod Tested
mod Samples
