-- The crates below, passed on to those above.
pub use Rattle.tm_terms.proofs.low.tm_cint.Ranges
pub use Rattle.tm_terms.proofs.low.tm_cint.Values
