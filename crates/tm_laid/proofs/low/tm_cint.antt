-- The crates below, passed on to those above.
pub use Rattle.tm_typed.proofs.low.tm_cint.Ranges
