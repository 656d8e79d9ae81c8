-- The crates below, passed on to those above.
pub use Rattle.concrete_values.proofs.Bases
