-- The crates below, passed on to those above.
pub use Rattle.shared_analyses.proofs.Analyses
