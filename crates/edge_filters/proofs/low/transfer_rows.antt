-- The crates below, passed on to those above.
pub use Rattle.edge_effects.proofs.low.transfer_rows.Contributing
pub use Rattle.edge_effects.proofs.low.transfer_rows.CoverSteps
pub use Rattle.edge_effects.proofs.low.transfer_rows.CoverValues
pub use Rattle.edge_effects.proofs.low.transfer_rows.Covers
pub use Rattle.edge_effects.proofs.low.transfer_rows.FilterLaws
pub use Rattle.edge_effects.proofs.low.transfer_rows.RowsRise
pub use Rattle.edge_effects.proofs.low.transfer_rows.Steps
