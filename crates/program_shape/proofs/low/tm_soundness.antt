-- The crates below, passed on to those above.
pub use Rattle.tm_soundness.proofs.FromRows
pub use Rattle.tm_soundness.proofs.Judged
pub use Rattle.tm_soundness.proofs.Known
pub use Rattle.tm_soundness.proofs.TwoRuns
pub use Rattle.tm_soundness.proofs.WithSection
