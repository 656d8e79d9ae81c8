-- The crates below, passed on to those above.
pub use Rattle.concrete_values.specs as concrete_values
pub mod reading
