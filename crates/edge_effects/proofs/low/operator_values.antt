-- The crates below, passed on to those above.
pub use Rattle.calculations.proofs.low.operator_values.OneAnswer
