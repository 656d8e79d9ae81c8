-- The crates below, passed on to those above.
pub use Rattle.cell_layout.proofs.PathCalls
