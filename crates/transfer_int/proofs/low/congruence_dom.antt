-- The crates below, passed on to those above.
pub use Rattle.congruence_dom.proofs.Quotients
