-- The crates below, passed on to those above.
pub mod calculations
pub mod edge_actions
pub mod operator_values
pub mod transfer_rows
