-- Values by their words (Values), and lines of values behind their keys (Rows). States by their lines (States). Entries
-- of stores one after another, with their lines (Entries), and as nested tables (Nesting), and stores (Stores). Rows of
-- lines by rising numbers (Series), and tables (Tables). What is made of a body before its states are read, and what
-- stands between a state and its lines (reading).
-- The crates below, passed on to those above.
pub use Rattle.certificate_parts.specs as certificate_parts
pub use Rattle.certificate_texts.specs as certificate_texts
pub use Rattle.post_recheck.specs as post_recheck
pub mod Values
pub mod Rows
pub mod States
pub mod Entries
pub mod Nesting
pub mod Stores
pub mod Series
pub mod Tables
pub mod reading
