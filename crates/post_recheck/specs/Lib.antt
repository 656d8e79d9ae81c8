-- What is given to a check (Pairs), what the check of one body finds (Bodies), and what a check answers (Checks).
-- The crates below, passed on to those above.
pub use Rattle.shared_programs.specs.body_systems
pub use Rattle.shared_programs.specs.edge_actions
pub use Rattle.shared_programs.specs.edge_effects
pub use Rattle.shared_programs.specs.filters
pub use Rattle.table_covers.specs as table_covers
pub use Rattle.shared_programs.specs.program_equations
pub use Rattle.shared_programs.specs.program_systems
pub use Rattle.shared_programs.specs.state_fits
pub use Rattle.shared_programs.specs.task_equations
pub use Rattle.shared_programs.specs.temporary_types
pub use Rattle.shared_programs.specs.transfer_rows
pub use Rattle.shared_programs.specs.typed_values
pub mod Pairs
pub mod Bodies
pub mod Checks
pub mod laws
pub mod reading
