-- The crates below, passed on to those above.
pub use Rattle.state_tree.specs as state_tree
pub use Rattle.tm_lattice.specs as tm_lattice
pub mod Cells
pub mod States
pub mod Temps
pub mod laws
