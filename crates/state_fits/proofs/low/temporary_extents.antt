-- The crates below, passed on to those above.
pub use Rattle.temporary_extents.proofs.Typed
pub use Rattle.temporary_extents.proofs.Closed
