-- The crates below, passed on to those above.
pub use Rattle.transfer_mem.proofs.low.transfer_int.BitSets
