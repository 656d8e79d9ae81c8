-- The crates below, passed on to those above.
pub use Rattle.typed_file_laws.proofs.low.typing_laws.Steps
