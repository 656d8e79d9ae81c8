-- The crates below, passed on to those above.
pub use Rattle.operator_values.proofs.OneAnswer
