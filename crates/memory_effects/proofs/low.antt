-- The crates below, passed on to those above.
pub mod edge_actions
pub mod edge_effects
pub mod transfer_rows
