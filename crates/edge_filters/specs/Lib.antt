-- Which tests an edge may ask (Tests).
-- The crates below, passed on to those above.
pub use Rattle.cell_env.specs as cell_env
pub use Rattle.edge_effects.specs.edge_actions
pub use Rattle.edge_effects.specs.calculations.interfere_set
pub use Rattle.pointer_dom.specs as pointer_dom
pub use Rattle.strided_dom.specs as strided_dom
pub use Rattle.transfer_int.specs as transfer_int
pub use Rattle.edge_effects.specs.calculations.transfer_rows
pub use Rattle.edge_effects.specs as edge_effects
pub mod Tests
