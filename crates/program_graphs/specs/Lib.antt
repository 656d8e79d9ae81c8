-- The crates below, passed on to those above.
pub use Rattle.mutex_configs.specs.flow_graph
pub use Rattle.graph_builder.specs as graph_builder
pub use Rattle.graph_builder.specs.lowering
pub use Rattle.lowering_laws.specs as lowering_laws
pub use Rattle.mutex_configs.specs as mutex_configs
pub use Rattle.tm_laid.specs as tm_laid
pub use Rattle.tm_terms.specs as tm_terms
pub mod Prepared
