-- The order of alarms, edges and flaws (Order), least upper bounds of values (Bounds), what is wrong with pointers
-- (Flaws), the contexts of alarms (Contexts), and what the code finds on its way (reading).
-- The crate below, passed on to those above.
pub use Rattle.program_reports.specs as program_reports
pub mod Order
pub mod Bounds
pub mod Flaws
pub mod Contexts
pub mod reading
