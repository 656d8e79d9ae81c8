-- The crates below, passed on to those above.
pub mod lowering
pub mod mutex_configs
pub mod typed_file_laws
