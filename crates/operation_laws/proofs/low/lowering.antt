-- The crates below, passed on to those above.
pub use Rattle.lowering_laws.proofs.low.lowering.Demands
