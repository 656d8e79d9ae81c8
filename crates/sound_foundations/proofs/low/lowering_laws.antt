-- The crates below, passed on to those above.
pub use Rattle.operation_laws.proofs.low.lowering_laws.Configured
pub use Rattle.operation_laws.proofs.low.lowering_laws.Founded
pub use Rattle.operation_laws.proofs.low.lowering_laws.GraphLaws
pub use Rattle.operation_laws.proofs.low.lowering_laws.TableGraphs
