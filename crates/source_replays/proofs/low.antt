-- The crates below, passed on to those above.
pub mod source_programs
