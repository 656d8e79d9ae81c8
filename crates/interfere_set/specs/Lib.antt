-- The crates below, passed on to those above.
pub use Rattle.pointer_dom.specs as pointer_dom
pub use Rattle.strided_dom.specs as strided_dom
pub mod Stores
pub mod laws
