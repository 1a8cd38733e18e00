-- What the contracts of `places` cite: it serves inner functions only.
pub mod Inner
