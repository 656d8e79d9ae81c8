-- Sets of mutexes (Sets), the configured graph of a body (Nodes).
-- The crates below, passed on to those above.
pub use Rattle.flow_graph.specs as flow_graph
pub use Rattle.graph_facts.specs as graph_facts
pub use Rattle.strided_dom.specs as strided_dom
pub use Rattle.tm_terms.specs.tm_cint
pub use Rattle.tm_laid.specs as tm_laid
pub use Rattle.tm_terms.specs as tm_terms
pub use Rattle.tm_laid.specs.tm_typed
pub mod Sets
pub mod Graphs
pub mod Nodes
pub mod Programs
pub mod reading
