-- The crates below, passed on to those above.
pub use Rattle.source_programs.proofs.Accepted
