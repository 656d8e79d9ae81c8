-- The crates below, passed on to those above.
pub mod cell_layout
pub mod cell_types
pub mod lowering
pub mod lowering_laws
pub mod mutex_configs
pub mod next_action_laws
pub mod temporary_types
pub mod typed_file_laws
pub mod typing_laws
