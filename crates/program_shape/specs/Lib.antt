-- A program as the soundness theorem reads it.
-- The crates below, passed on to those above.
pub use Rattle.concrete_steps.specs as concrete_steps
pub use Rattle.concrete_steps.specs.concrete_values
pub use Rattle.mutex_configs.specs.flow_graph
pub use Rattle.mutex_configs.specs.graph_facts
pub use Rattle.mutex_configs.specs as mutex_configs
pub use Rattle.mutex_configs.specs.strided_dom
pub use Rattle.concrete_steps.specs.tm_cint
pub use Rattle.concrete_steps.specs.tm_laid
pub use Rattle.concrete_steps.specs.tm_lattice
pub use Rattle.tm_soundness.specs as tm_soundness
pub use Rattle.concrete_steps.specs.tm_terms
pub use Rattle.concrete_steps.specs.tm_typed
pub mod Shape
