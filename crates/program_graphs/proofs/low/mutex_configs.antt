-- The crates below, passed on to those above.
pub use Rattle.mutex_configs.proofs.Searching
pub use Rattle.mutex_configs.proofs.Whole
