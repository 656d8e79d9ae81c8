-- The crates below, passed on to those above.
pub use Rattle.edge_filters.proofs.low.transfer_int.BitSets
