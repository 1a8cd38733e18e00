-- What the contracts of `panel_picture` cite.
pub mod Forward
