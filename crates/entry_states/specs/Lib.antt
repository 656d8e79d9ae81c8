-- What entries need of a layout and what is told of initial values (Beginnings).
-- The crates below, passed on to those above.
pub use Rattle.body_systems.specs as body_systems
pub use Rattle.body_systems.specs.edge_actions
pub use Rattle.body_systems.specs.edge_effects
pub use Rattle.body_systems.specs.edge_filters
pub use Rattle.body_systems.specs.edge_actions.filters
pub use Rattle.body_systems.specs.table_covers
pub use Rattle.body_systems.specs.program_equations
pub use Rattle.body_systems.specs.region_cells
pub use Rattle.body_systems.specs.state_fits
pub use Rattle.body_systems.specs.task_equations
pub use Rattle.body_systems.specs.temporary_types
pub use Rattle.body_systems.specs.edge_actions.transfer_rows
pub use Rattle.body_systems.specs.typed_values
pub mod Beginnings
pub mod reading
