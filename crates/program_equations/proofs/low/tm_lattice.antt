-- The crates below, passed on to those above.
pub use Rattle.region_cells.proofs.low.tm_lattice.Climb
