-- The crates below, passed on to those above.
pub use Rattle.pointer_dom.specs as pointer_dom
pub use Rattle.pointer_dom.specs.strided_dom
pub use Rattle.pointer_dom.specs.tm_lattice
pub mod Heights
pub mod laws
