-- The crates below, passed on to those above.
pub use Rattle.graph_builder.specs as graph_builder
pub use Rattle.program_systems.specs.program_equations
pub use Rattle.program_systems.specs as program_systems
pub use Rattle.program_systems.specs.region_cells
pub use Rattle.program_systems.specs.task_equations
