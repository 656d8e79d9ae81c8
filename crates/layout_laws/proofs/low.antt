-- The crates below, passed on to those above.
pub mod cell_layout
