-- The crates below, passed on to those above.
pub use Rattle.concrete_steps.specs as concrete_steps
pub use Rattle.concrete_steps.specs.concrete_values
pub use Rattle.flow_graph.specs as flow_graph
pub mod Steps
pub mod Table
pub mod Built
pub mod Lowerable
pub mod Owned
