-- The crates below, passed on to those above.
pub use Rattle.tm_cint.proofs.Ranges
pub use Rattle.tm_cint.proofs.Values
