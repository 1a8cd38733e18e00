-- What the contracts of `answer` and of the crates above it cite.
pub mod Answers
