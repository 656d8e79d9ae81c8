-- The crates below, passed on to those above.
pub use Rattle.pointer_dom.proofs.Meaning
