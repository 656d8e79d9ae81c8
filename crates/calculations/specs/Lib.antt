-- The crates below, passed on to those above.
pub use Rattle.transfer_rows.specs.interfere_set
pub use Rattle.transfer_rows.specs.operator_values
pub use Rattle.transfer_int.specs as transfer_int
pub use Rattle.transfer_rows.specs as transfer_rows
pub mod Given
pub mod reading
