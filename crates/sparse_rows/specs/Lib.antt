-- Which cells an operation leaves as they are (Touched), what it makes of those that it changes one by one (Carried),
-- at which it looks (Looked), of which cells temporaries may be copies and which may be fresh (Traces), what code has
-- to check of an edge (Checks), and the parts of a state (StateParts). The crates below, passed on to those above.
pub use Rattle.sparse_tables.specs as sparse_tables
pub use Rattle.transfer_rows.specs as transfer_rows
pub mod Touched
pub mod Carried
pub mod Looked
pub mod Traces
pub mod StateParts
pub mod Checks
pub mod laws
