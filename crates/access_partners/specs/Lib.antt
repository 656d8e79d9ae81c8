-- Lists of exactly those (Lists), what is told of accesses (Partners), and what the code finds on its way (reading).
-- The crates below, passed on to those above.
pub use Rattle.access_groups.specs as access_groups
pub use Rattle.access_groups.specs.program_reports
pub mod Lists
pub mod Partners
pub mod reading
