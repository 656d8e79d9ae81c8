-- What temporaries hold, and which operations fit them (Sorts); which of them hold pointers (PointerMarks); how many
-- there are (Temporaries); and graphs that give no temporary anew once it was copied (Settled).
-- The crates below, passed on to those above.
pub use Rattle.concrete_values.specs as concrete_values
pub use Rattle.flow_graph.specs as flow_graph
pub use Rattle.graph_facts.specs as graph_facts
pub use Rattle.tm_typed.specs.tm_cint
pub use Rattle.concrete_values.specs.tm_laid
pub use Rattle.tm_typed.specs.tm_terms
pub use Rattle.tm_typed.specs.tm_trees
pub use Rattle.tm_typed.specs as tm_typed
pub mod Sorts
pub mod PointerMarks
pub mod Temporaries
pub mod Settled
