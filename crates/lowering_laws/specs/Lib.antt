-- What the laws speak of.
-- The crates below, passed on to those above.
pub use Rattle.call_graph.specs as call_graph
pub use Rattle.lowering.specs as lowering
pub use Rattle.mutex_configs.specs as mutex_configs
pub mod LaidFiles
pub mod Mutexes
pub mod Operations
