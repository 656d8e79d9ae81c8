-- The crates below, passed on to those above.
pub use Rattle.typed_file_laws.proofs.Layable
pub use Rattle.typed_file_laws.proofs.MentionFiles
pub use Rattle.typed_file_laws.proofs.RuleSteps
pub use Rattle.typed_file_laws.proofs.TypedBodies
