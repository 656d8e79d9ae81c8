-- The crates below, passed on to those above.
pub mod lowering_laws
pub mod next_action_laws
pub mod operation_laws
