-- The edges of a body and their states (Reached), operands whose order is open (Order), and what the code finds on its
-- way (reading).
-- The crates below, passed on to those above.
pub use Rattle.access_races.specs as access_races
pub use Rattle.program_reports.specs as program_reports
pub use Rattle.edge_origins.specs as edge_origins
pub use Rattle.text_choices.specs as text_choices
pub mod Reached
pub mod Order
pub mod reading
