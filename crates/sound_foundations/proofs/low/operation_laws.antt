-- The crates below, passed on to those above.
pub use Rattle.operation_laws.proofs.FileSorts
