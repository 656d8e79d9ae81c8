-- The crates below, passed on to those above.
pub use Rattle.certificate_check.proofs.Sourced
pub use Rattle.certificate_check.proofs.Reached
