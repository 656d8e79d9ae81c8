-- The crates below, passed on to those above.
pub use Rattle.c_expr_rules.proofs.low.c_folds.ConvertedValues
