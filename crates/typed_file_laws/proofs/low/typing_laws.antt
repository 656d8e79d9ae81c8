-- The crates below, passed on to those above.
pub use Rattle.typing_laws.proofs.Jumps
pub use Rattle.typing_laws.proofs.Labels
pub use Rattle.typing_laws.proofs.Reaching
pub use Rattle.typing_laws.proofs.Steps
