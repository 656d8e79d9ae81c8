-- The crates below, passed on to those above.
pub mod c_folds
pub mod cell_layout
pub mod cell_types
pub mod typed_file_laws
pub mod typing_laws
