-- The crates below, passed on to those above.
pub use Rattle.next_action_laws.proofs.low.typing_laws.Steps
