-- The crates below, passed on to those above.
pub mod certificate_check
