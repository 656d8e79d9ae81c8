-- The crates below, passed on to those above.
pub mod pointer_dom
pub mod strided_dom
