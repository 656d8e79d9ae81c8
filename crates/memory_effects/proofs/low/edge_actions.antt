-- The crates below, passed on to those above.
pub use Rattle.edge_actions.proofs.ActionForms
