-- The crates below, passed on to those above.
pub use Rattle.edge_actions.specs as edge_actions
pub use Rattle.calculations.specs as calculations
pub mod Effects
pub mod Endings
