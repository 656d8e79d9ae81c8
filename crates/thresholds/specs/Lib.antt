-- The crates below, passed on to those above.
pub use Rattle.strided_dom.specs as strided_dom
pub use Rattle.tm_cint.specs as tm_cint
pub use Rattle.tm_lattice.specs as tm_lattice
pub mod Thresholds
