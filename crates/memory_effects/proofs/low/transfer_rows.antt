-- The crates below, passed on to those above.
pub use Rattle.edge_effects.proofs.low.transfer_rows.Contributing
pub use Rattle.edge_effects.proofs.low.transfer_rows.Fitting
pub use Rattle.edge_effects.proofs.low.transfer_rows.RowsRise
