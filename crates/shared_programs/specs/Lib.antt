-- The crates below, passed on to those above.
pub use Rattle.program_systems.specs.body_systems
pub use Rattle.program_systems.specs.edge_actions
pub use Rattle.program_systems.specs.edge_effects
pub use Rattle.program_systems.specs.filters
pub use Rattle.program_systems.specs.program_equations
pub use Rattle.program_systems.specs as program_systems
pub use Rattle.program_systems.specs.state_fits
pub use Rattle.program_systems.specs.task_equations
pub use Rattle.program_systems.specs.temporary_types
pub use Rattle.program_systems.specs.transfer_rows
pub use Rattle.program_systems.specs.typed_values
