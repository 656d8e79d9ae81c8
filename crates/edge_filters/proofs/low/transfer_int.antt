-- The crates below, passed on to those above.
pub use Rattle.transfer_int.proofs.BitSets
