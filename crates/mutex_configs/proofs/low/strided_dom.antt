-- The crates below, passed on to those above.
pub use Rattle.strided_dom.proofs.Members
