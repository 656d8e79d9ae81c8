-- How the join of many values is found (reading).
-- The crates below, passed on to those above.
pub use Rattle.table_covers.specs as table_covers
pub mod reading
