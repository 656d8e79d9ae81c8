-- The bounds of what objects hold (Ranges), dead places (Places), and how the code finds both (reading).
-- The crates below, passed on to those above.
pub use Rattle.place_lists.specs as place_lists
pub use Rattle.program_reports.specs as program_reports
pub mod Ranges
pub mod Places
pub mod reading
