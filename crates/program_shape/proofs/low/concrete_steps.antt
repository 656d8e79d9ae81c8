-- The crates below, passed on to those above.
pub use Rattle.concrete_steps.proofs.Moving
pub use Rattle.concrete_steps.proofs.Reached
