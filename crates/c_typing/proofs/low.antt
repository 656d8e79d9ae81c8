-- The crates below, passed on to those above.
pub mod typing_laws
