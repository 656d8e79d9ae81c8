-- The crates below, passed on to those above.
pub use Rattle.body_systems.proofs.low.transfer_rows.Contributing
pub use Rattle.body_systems.proofs.low.transfer_rows.CoverSteps
pub use Rattle.body_systems.proofs.low.transfer_rows.CoverValues
pub use Rattle.body_systems.proofs.low.transfer_rows.Covers
pub use Rattle.body_systems.proofs.low.transfer_rows.FilterLaws
