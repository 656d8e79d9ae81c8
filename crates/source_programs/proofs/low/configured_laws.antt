-- The crates below, passed on to those above.
pub use Rattle.configured_laws.proofs.OneProgram
