-- The crates below, passed on to those above.
pub mod program_solutions
pub mod shared_analyses
