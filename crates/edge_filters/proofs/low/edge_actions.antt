-- The crates below, passed on to those above.
pub use Rattle.edge_effects.proofs.low.edge_actions.ActionForms
pub use Rattle.edge_effects.proofs.low.edge_actions.Lists
pub use Rattle.edge_effects.proofs.low.edge_actions.Ranges
