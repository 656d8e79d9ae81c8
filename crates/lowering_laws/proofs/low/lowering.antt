-- The crates below, passed on to those above.
pub use Rattle.lowering.proofs.Demands
