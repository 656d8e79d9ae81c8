-- The crates below, passed on to those above.
pub mod flow_graph
