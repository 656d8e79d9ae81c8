-- The crates below, passed on to those above.
pub use Rattle.transfer_rows.proofs.low.transfer_int.BitSets
