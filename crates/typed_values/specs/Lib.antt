-- The crates below, passed on to those above.
pub use Rattle.operator_values.specs as operator_values
pub use Rattle.operator_values.specs.transfer_int
pub mod Types
pub mod laws
