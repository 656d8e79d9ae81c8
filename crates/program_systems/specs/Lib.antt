-- Programs that can be analysed (Analysable), programs as plain data (ReadPrograms), and what is computed once of a
-- program (ProgramFacts).
-- The crates below, passed on to those above.
pub use Rattle.entry_states.specs.body_systems
pub use Rattle.cell_env.specs as cell_env
pub use Rattle.entry_states.specs.edge_actions
pub use Rattle.entry_states.specs.edge_effects
pub use Rattle.entry_states.specs.edge_filters
pub use Rattle.entry_states.specs.filters
pub use Rattle.mutex_configs.specs.flow_graph
pub use Rattle.mutex_configs.specs.graph_facts
pub use Rattle.interfere_set.specs as interfere_set
pub use Rattle.entry_states.specs.table_covers
pub use Rattle.mutex_configs.specs as mutex_configs
pub use Rattle.pointer_dom.specs as pointer_dom
pub use Rattle.entry_states.specs.program_equations
pub use Rattle.entry_states.specs.region_cells
pub use Rattle.entry_states.specs.state_fits
pub use Rattle.cell_env.specs.state_tree
pub use Rattle.pointer_dom.specs.strided_dom
pub use Rattle.entry_states.specs.task_equations
pub use Rattle.entry_states.specs.temporary_types
pub use Rattle.mutex_configs.specs.tm_laid
pub use Rattle.tm_lattice.specs as tm_lattice
pub use Rattle.tm_typed.specs as tm_typed
pub use Rattle.entry_states.specs.transfer_rows
pub use Rattle.entry_states.specs.typed_values
pub mod Analysable
pub mod ReadPrograms
pub mod ProgramFacts
