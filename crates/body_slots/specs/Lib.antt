-- Where the cells that a body sees are kept (Placed), the slots of a body with its constraints (Slots), what rows read
-- and bring, as lists (Rows), what stood over an earlier store (Starts), and what code finds (reading). The crates
-- below, passed on to those above.
pub use Rattle.slot_numbers.specs as slot_numbers
pub use Rattle.row_checks.specs as row_checks
pub use Rattle.body_fronts.specs as body_fronts
pub use Rattle.body_systems.specs as body_systems
pub mod Placed
pub mod Slots
pub mod Rows
pub mod Starts
pub mod reading
pub mod laws
