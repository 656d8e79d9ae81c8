-- The crates below, passed on to those above.
pub mod concrete_values
pub mod tm_cint
pub mod tm_laid
