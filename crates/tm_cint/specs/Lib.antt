-- What C's integers are: the types (IntTypes), the conversions among them (Conversions), and the operators with their
-- errors (Operators).
-- The crates below, passed on to those above.
pub use Rattle.tm_numbers.specs as tm_numbers
pub mod IntTypes
pub mod Conversions
pub mod Operators
pub use Rattle.tm_cint.specs.IntTypes.{width_of, is_signed, precision_of, lo_of, hi_of, IsIn, is_in}
pub use Rattle.tm_cint.specs.Conversions.{converted_value, wrapped, residue, value_of, promoted_type, usual_type}
pub use Rattle.tm_cint.specs.Operators.{outcome, fitted, result_type, IsRightOperand}
