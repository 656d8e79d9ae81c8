-- The crates below, passed on to those above.
pub mod tm_cint
