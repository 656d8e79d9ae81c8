-- The crates below, passed on to those above.
pub use Rattle.lowering_laws.proofs.Configured
pub use Rattle.lowering_laws.proofs.Founded
pub use Rattle.lowering_laws.proofs.GraphLaws
pub use Rattle.lowering_laws.proofs.Lowered
pub use Rattle.lowering_laws.proofs.Ranges
pub use Rattle.lowering_laws.proofs.TableGraphs
pub use Rattle.lowering_laws.proofs.TypedGraphs
