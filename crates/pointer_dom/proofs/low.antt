-- The crates below, passed on to those above.
pub mod strided_dom
pub mod tm_numbers
