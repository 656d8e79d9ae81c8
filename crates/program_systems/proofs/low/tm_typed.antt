-- The crates below, passed on to those above.
pub use Rattle.tm_typed.proofs.expressions
pub use Rattle.tm_typed.proofs.statements
