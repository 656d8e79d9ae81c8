-- Classes (Class), the rows (Rows), and what they promise (Laws).
-- The crates below, passed on to those above.
pub use Rattle.tm_numbers.specs as tm_numbers
pub mod Class
pub mod Laws
pub mod Rows
