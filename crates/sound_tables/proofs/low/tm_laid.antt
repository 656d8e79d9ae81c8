-- The crates below, passed on to those above.
pub use Rattle.program_shape.proofs.low.tm_laid.TypeDepth
