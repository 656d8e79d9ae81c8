-- The crates below, passed on to those above.
pub mod transfer_int
pub mod transfer_rows
