-- The crates below, passed on to those above.
pub mod edge_actions
pub mod transfer_int
pub mod transfer_rows
