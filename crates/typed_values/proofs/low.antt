-- The crates below, passed on to those above.
pub mod filters
pub mod transfer_int
