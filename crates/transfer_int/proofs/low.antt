-- The crates below, passed on to those above.
pub mod congruence_dom
