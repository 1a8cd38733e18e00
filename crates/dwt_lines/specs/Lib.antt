-- What the contracts of `dwt_lines` cite.
pub mod Line
