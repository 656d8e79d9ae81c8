-- The crates below, passed on to those above.
pub mod layout_laws
pub mod sound_runs
