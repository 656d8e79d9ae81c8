-- The crates below, passed on to those above.
pub use Rattle.transfer_int.proofs.BitSets
pub use Rattle.transfer_int.proofs.Complementing
pub use Rattle.transfer_int.proofs.Failing
pub use Rattle.transfer_int.proofs.Growing
pub use Rattle.transfer_int.proofs.Holding
pub use Rattle.transfer_int.proofs.Inside
pub use Rattle.transfer_int.proofs.Placing
pub use Rattle.transfer_int.proofs.Wrapping
