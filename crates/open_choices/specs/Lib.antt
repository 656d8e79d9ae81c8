-- Kind by kind what the runs of a body leave open (Unset, Conversions, Constants, Enumerations, Lifetimes, Members),
-- the whole list (Choices), and what the code finds on its way (reading). The crates below, passed on to those above.
pub use Rattle.operand_orders.specs as operand_orders
pub mod Unset
pub mod Conversions
pub mod Constants
pub mod Enumerations
pub mod Lifetimes
pub mod Members
pub mod Choices
pub mod reading
