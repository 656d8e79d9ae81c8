-- The crates below, passed on to those above.
pub use Rattle.next_action_laws.proofs.low.typed_file_laws.Layable
pub use Rattle.next_action_laws.proofs.low.typed_file_laws.MentionFiles
pub use Rattle.next_action_laws.proofs.low.typed_file_laws.RuleSteps
pub use Rattle.next_action_laws.proofs.low.typed_file_laws.TypedBodies
