-- The crates below, passed on to those above.
pub use Rattle.tm_cint.proofs.Values
pub use Rattle.tm_cint.proofs.Wide
