-- The crates below, passed on to those above.
pub mod concrete_steps
pub mod flow_graph
pub mod mutex_configs
pub mod strided_dom
pub mod tm_cint
pub mod tm_laid
pub mod tm_soundness
