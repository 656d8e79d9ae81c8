-- The crates below, passed on to those above.
pub use Rattle.entry_states.proofs.low.transfer_rows.Contributing
pub use Rattle.entry_states.proofs.low.transfer_rows.CoverSteps
pub use Rattle.entry_states.proofs.low.transfer_rows.CoverValues
pub use Rattle.entry_states.proofs.low.transfer_rows.Covers
pub use Rattle.entry_states.proofs.low.transfer_rows.FilterLaws
