-- The cells that are written in regions (Written), and what the code keeps (reading).
-- The crates below, passed on to those above.
pub use Rattle.flow_graph.specs.concrete_values
pub use Rattle.flow_graph.specs as flow_graph
pub use Rattle.graph_facts.specs as graph_facts
pub use Rattle.tm_cint.specs as tm_cint
pub use Rattle.tm_laid.specs as tm_laid
pub use Rattle.tm_lattice.specs as tm_lattice
pub use Rattle.tm_typed.specs.tm_terms
pub use Rattle.tm_typed.specs as tm_typed
pub mod Written
pub mod reading
