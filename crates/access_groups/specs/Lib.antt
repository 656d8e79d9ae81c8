-- The order of an object's accesses (Order), the groups of a program's tables (Groups), and what the code finds on its
-- way (reading).
-- The crate below, passed on to those above.
pub use Rattle.program_reports.specs as program_reports
pub mod Order
pub mod Groups
pub mod reading
