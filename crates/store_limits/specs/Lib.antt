-- How high the stores of a program may stand, what an end of its passes is, and that a least solution exists (Limits).
-- The crates below, passed on to those above.
pub use Rattle.program_equations.specs.mutex_configs
pub use Rattle.program_equations.specs as program_equations
pub use Rattle.program_equations.specs.state_fits
pub use Rattle.program_equations.specs.transfer_rows
pub use Rattle.program_equations.specs.value_heights
pub mod Limits
