-- The crates below, passed on to those above.
pub mod operator_values
pub mod transfer_int
