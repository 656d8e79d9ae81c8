-- The crates below, passed on to those above.
pub use Rattle.program_solutions.proofs.OneReport
