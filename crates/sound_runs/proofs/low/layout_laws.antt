-- The crates below, passed on to those above.
pub use Rattle.layout_laws.proofs.Counted
