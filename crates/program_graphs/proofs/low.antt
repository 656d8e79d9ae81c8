-- The crates below, passed on to those above.
pub mod graph_builder
pub mod lowering_laws
pub mod mutex_configs
pub mod typed_file_laws
