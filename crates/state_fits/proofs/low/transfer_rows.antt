-- The crates below, passed on to those above.
pub use Rattle.edge_actions.proofs.low.transfer_rows.RowsRise
