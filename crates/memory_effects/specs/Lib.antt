-- The crates below, passed on to those above.
pub use Rattle.edge_effects.specs as edge_effects
pub use Rattle.edge_effects.specs.calculations
pub use Rattle.edge_actions.specs as edge_actions
pub mod reading
