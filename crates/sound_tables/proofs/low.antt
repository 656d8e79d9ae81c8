-- The crates below, passed on to those above.
pub mod pointer_dom
pub mod program_shape
pub mod tm_laid
