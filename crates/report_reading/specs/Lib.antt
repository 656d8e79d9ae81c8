-- The crates below, passed on to those above.
pub use Rattle.report_json.specs as report_json
pub use Rattle.solution_lines.specs as solution_lines
pub mod Assumptions
pub mod Listings
pub mod Reports
pub mod Ways
pub mod reading
