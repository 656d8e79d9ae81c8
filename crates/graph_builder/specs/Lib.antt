-- The graphs of bodies as the code answers them, the call paths of their edges, and how what is built for a body ends.
-- The crates below, passed on to those above.
pub use Rattle.concrete_values.specs as concrete_values
pub use Rattle.flow_graph.specs as flow_graph
pub use Rattle.body_builder.specs.lowering
pub mod Lowered
pub mod EdgePaths
pub mod Ends
pub mod reading
