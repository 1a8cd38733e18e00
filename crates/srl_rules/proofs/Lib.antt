-- Laws for both SRL coders.
pub mod Widths
