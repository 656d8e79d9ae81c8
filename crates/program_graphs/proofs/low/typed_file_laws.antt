-- The crates below, passed on to those above.
pub use Rattle.lowering_laws.proofs.low.typed_file_laws.Layable
