-- What the equations read of a layout (Readings), programs as their bodies (Programs), where control begins (Entries),
-- the equations of all bodies together (Systems), their solutions (Solutions), and the laws of all of it (laws).
-- The crates below, passed on to those above.
pub use Rattle.edge_filters.specs.cell_env
pub use Rattle.edge_filters.specs.interfere_set
pub use Rattle.task_equations.specs.table_covers
pub use Rattle.task_equations.specs.mutex_configs
pub use Rattle.edge_filters.specs.pointer_dom
pub use Rattle.task_equations.specs.state_fits
pub use Rattle.edge_filters.specs.strided_dom
pub use Rattle.task_equations.specs as task_equations
pub use Rattle.task_equations.specs.temporary_extents
pub use Rattle.task_equations.specs.temporary_types
pub use Rattle.region_cells.specs.tm_laid
pub use Rattle.region_cells.specs.tm_lattice
pub use Rattle.edge_filters.specs.transfer_rows
pub use Rattle.task_equations.specs.typed_values
pub use Rattle.task_equations.specs.value_heights
pub mod Readings
pub mod Programs
pub mod Entries
pub mod Systems
pub mod Solutions
pub mod laws
