-- The facts of a body (Facts), its equations as the code holds them (Systems), copies of edges as edges at a node
-- (Views), and what the code keeps (reading).
-- The crates below, passed on to those above.
pub use Rattle.transfer_mem.specs.edge_filters
pub use Rattle.table_covers.specs as table_covers
pub use Rattle.program_equations.specs as program_equations
pub use Rattle.region_cells.specs as region_cells
pub use Rattle.task_equations.specs.state_fits
pub use Rattle.task_equations.specs as task_equations
pub use Rattle.temporary_types.specs as temporary_types
pub use Rattle.task_equations.specs.typed_values
pub use Rattle.transfer_mem.specs.edge_effects
pub use Rattle.transfer_mem.specs.edge_actions
pub mod Facts
pub mod Systems
pub mod Views
pub mod reading
pub mod laws
