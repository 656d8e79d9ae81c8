-- The crates below, passed on to those above.
pub use Rattle.calculations.proofs.Calculating
