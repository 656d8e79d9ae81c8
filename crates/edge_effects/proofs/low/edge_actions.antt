-- The crates below, passed on to those above.
pub use Rattle.edge_actions.proofs.ActionForms
pub use Rattle.edge_actions.proofs.Lists
pub use Rattle.edge_actions.proofs.Ranges
