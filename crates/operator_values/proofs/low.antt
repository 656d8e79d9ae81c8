-- The crates below, passed on to those above.
pub mod filters
pub mod pointer_dom
pub mod strided_dom
pub mod transfer_int
