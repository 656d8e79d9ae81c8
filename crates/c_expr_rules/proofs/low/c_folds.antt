-- The crates below, passed on to those above.
pub use Rattle.c_folds.proofs.ConvertedValues
