-- The crates below, passed on to those above.
pub use Rattle.temporary_types.proofs.Telling
