-- The crate below, passed on to those above.
pub use Rattle.tm_lattice.specs as tm_lattice
