-- The crates below, passed on to those above.
pub use Rattle.tm_laid.proofs.TypeDepth
