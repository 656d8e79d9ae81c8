-- Operands (Operands), the rows of each operator (Rows), the value and the classes of errors that follow (Values), the
-- wrapping of a set in the words of the table (Wrappings), and how an outcome notes classes (Outcomes).
-- The crates below, passed on to those above.
pub use Rattle.congruence_dom.specs as congruence_dom
pub use Rattle.interval_dom.specs as interval_dom
pub mod Operands
pub mod Rows
pub mod Values
pub mod Wrappings
pub mod Outcomes
pub mod reading
