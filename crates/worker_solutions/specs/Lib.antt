-- The histories of a program's workers (QuietHistories).
-- The crates below, passed on to those above.
pub use Rattle.program_solutions.specs.program_equations
pub use Rattle.program_solutions.specs as program_solutions
pub use Rattle.program_solutions.specs.program_systems
pub use Rattle.program_solutions.specs.tm_laid
pub mod QuietHistories
