-- The crates below, passed on to those above.
pub use Rattle.transfer_rows.proofs.Contributing
pub use Rattle.transfer_rows.proofs.CoverSteps
pub use Rattle.transfer_rows.proofs.CoverValues
pub use Rattle.transfer_rows.proofs.Covers
pub use Rattle.transfer_rows.proofs.FilterLaws
pub use Rattle.transfer_rows.proofs.Fitting
pub use Rattle.transfer_rows.proofs.RowsRise
pub use Rattle.transfer_rows.proofs.Steps
pub use Rattle.transfer_rows.proofs.TableChanges
