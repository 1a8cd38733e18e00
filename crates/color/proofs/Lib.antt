-- The laws of `color`, for its own proofs.
mod HalfWords
mod Late
mod Split
mod Picture
