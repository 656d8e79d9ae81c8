-- The crates below, passed on to those above.
pub use Rattle.body_systems.proofs.low.edge_actions.ActionForms
pub use Rattle.body_systems.proofs.low.edge_actions.Lists
