-- The crates below, passed on to those above.
pub use Rattle.edge_filters.proofs.low.edge_actions.ActionForms
pub use Rattle.edge_filters.proofs.low.edge_actions.Lists
