-- Strided sets (Progression), what each operation on them is about (Combinations), and rounding (Rounding).
-- The crates below, passed on to those above.
pub use Rattle.tm_numbers.specs as tm_numbers
pub mod Progression
pub mod Combinations
pub mod Rounding
pub mod laws
pub mod reading
