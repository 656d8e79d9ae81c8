-- The crates below, passed on to those above.
pub use Rattle.transfer_rows.specs.cell_env
pub use Rattle.transfer_rows.specs.filters
pub use Rattle.transfer_rows.specs.interfere_set
pub use Rattle.transfer_rows.specs.transfer_int
pub use Rattle.transfer_rows.specs as transfer_rows
pub mod Layouts
pub mod Edges
pub mod reading
