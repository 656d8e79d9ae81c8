-- The crates below, passed on to those above.
pub use Rattle.tm_numbers.proofs.Congruences
pub use Rattle.tm_numbers.proofs.Divisibility
