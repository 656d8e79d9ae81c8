-- The crates below, passed on to those above.
pub mod flow_graph
pub mod graph_facts
pub mod strided_dom
