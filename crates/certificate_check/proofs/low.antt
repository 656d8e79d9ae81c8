-- The crates below, passed on to those above.
pub mod sound_core
pub mod source_programs
