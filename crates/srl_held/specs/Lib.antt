-- What the contracts of `srl_held` cite.
pub mod Held
pub mod Stream
