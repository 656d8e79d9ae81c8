-- The crates below, passed on to those above.
pub use Rattle.operation_laws.proofs.low.next_action_laws.ObjectPlaces
