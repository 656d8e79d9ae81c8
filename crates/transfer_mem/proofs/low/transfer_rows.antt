-- The crates below, passed on to those above.
pub use Rattle.edge_filters.proofs.low.transfer_rows.Contributing
pub use Rattle.edge_filters.proofs.low.transfer_rows.CoverSteps
pub use Rattle.edge_filters.proofs.low.transfer_rows.CoverValues
pub use Rattle.edge_filters.proofs.low.transfer_rows.Covers
pub use Rattle.edge_filters.proofs.low.transfer_rows.FilterLaws
