-- What the law speaks of.
-- The crates below, passed on to those above.
pub use Rattle.lowering_laws.specs.call_graph
pub use Rattle.next_action_laws.specs.cell_layout
pub use Rattle.next_action_laws.specs.concrete_steps
pub use Rattle.temporary_types.specs.concrete_values
pub use Rattle.temporary_types.specs.flow_graph
pub use Rattle.temporary_types.specs.graph_facts
pub use Rattle.lowering_laws.specs.lowering
pub use Rattle.lowering_laws.specs as lowering_laws
pub use Rattle.lowering_laws.specs.mutex_configs
pub use Rattle.next_action_laws.specs as next_action_laws
pub use Rattle.temporary_types.specs as temporary_types
pub use Rattle.temporary_types.specs.tm_cint
pub use Rattle.temporary_types.specs.tm_laid
pub use Rattle.temporary_types.specs.tm_terms
pub use Rattle.temporary_types.specs.tm_trees
pub use Rattle.temporary_types.specs.tm_typed
pub use Rattle.next_action_laws.specs.typed_file_laws
pub mod SortedGraphs
