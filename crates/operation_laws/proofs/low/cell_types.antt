-- The crates below, passed on to those above.
pub use Rattle.next_action_laws.proofs.low.cell_types.Types
