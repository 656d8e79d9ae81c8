-- The crates below, passed on to those above.
pub use Rattle.program_equations.specs as program_equations
pub use Rattle.program_equations.specs.state_fits
pub use Rattle.program_equations.specs.task_equations
pub use Rattle.program_equations.specs.temporary_types
pub use Rattle.program_equations.specs.transfer_rows
pub use Rattle.program_equations.specs.value_heights
pub mod reading
