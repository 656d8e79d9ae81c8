-- The crates below, passed on to those above.
pub use Rattle.flow_graph.proofs.Positions
pub use Rattle.flow_graph.proofs.Same
