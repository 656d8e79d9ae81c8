-- The crates below, passed on to those above.
pub use Rattle.concrete_steps.proofs.low.tm_laid.TypeDepth
