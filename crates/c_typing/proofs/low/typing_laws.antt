-- The crates below, passed on to those above.
pub use Rattle.typing_laws.proofs.OneAnswer
pub use Rattle.typing_laws.proofs.SomeAnswer
