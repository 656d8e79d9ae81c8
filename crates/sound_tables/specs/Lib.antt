-- Programs of bodies as the soundness theorem reads them (Programs), what is asked of them (Premises), what the tables
-- and the store of an analysis hold (Memberships), what operations do, as the rows read it (Meanings), where tasks
-- begin (Starting), and what is said of all of it (Laws).
-- The crates below, passed on to those above.
pub use Rattle.program_shape.specs.concrete_steps
pub use Rattle.program_shape.specs.concrete_values
pub use Rattle.program_shape.specs.flow_graph
pub use Rattle.program_shape.specs.graph_facts
pub use Rattle.program_reports.specs.interfere_set
pub use Rattle.program_shape.specs.mutex_configs
pub use Rattle.program_reports.specs.program_equations
pub use Rattle.program_reports.specs as program_reports
pub use Rattle.program_shape.specs as program_shape
pub use Rattle.program_reports.specs.task_equations
pub use Rattle.program_reports.specs.temporary_types
pub use Rattle.program_shape.specs.tm_cint
pub use Rattle.program_shape.specs.tm_laid
pub use Rattle.program_shape.specs.tm_soundness
pub use Rattle.program_shape.specs.tm_terms
pub use Rattle.program_shape.specs.tm_typed
pub use Rattle.program_reports.specs.transfer_rows
pub mod Programs
pub mod Premises
pub mod Memberships
pub mod Meanings
pub mod Starting
pub mod Laws
