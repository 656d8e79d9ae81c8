-- The crates below, passed on to those above.
pub mod configured_laws
