-- The crates below, passed on to those above.
pub use Rattle.cell_types.proofs.Types
