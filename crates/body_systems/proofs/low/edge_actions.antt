-- The crates below, passed on to those above.
pub use Rattle.transfer_mem.proofs.low.edge_actions.ActionForms
pub use Rattle.transfer_mem.proofs.low.edge_actions.Lists
