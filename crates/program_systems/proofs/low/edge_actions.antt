-- The crates below, passed on to those above.
pub use Rattle.entry_states.proofs.low.edge_actions.ActionForms
pub use Rattle.entry_states.proofs.low.edge_actions.Lists
