-- The crates below, passed on to those above.
pub use Rattle.graph_builder.proofs.GraphPieces
