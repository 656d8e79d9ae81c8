-- The crates below, passed on to those above.
pub use Rattle.transfer_mem.proofs.low.transfer_rows.Contributing
pub use Rattle.transfer_mem.proofs.low.transfer_rows.CoverSteps
pub use Rattle.transfer_mem.proofs.low.transfer_rows.CoverValues
pub use Rattle.transfer_mem.proofs.low.transfer_rows.Covers
pub use Rattle.transfer_mem.proofs.low.transfer_rows.FilterLaws
