-- What fits a program (Fits); what temporaries may hold by their types and their extents (Kinds); what an operation
-- names and reaches (Typed); edges (Edges); the greatest states (Tops).
-- The crates below, passed on to those above.
pub use Rattle.edge_actions.specs.cell_env
pub use Rattle.edge_actions.specs as edge_actions
pub use Rattle.edge_actions.specs.interfere_set
pub use Rattle.value_heights.specs.pointer_dom
pub use Rattle.temporary_extents.specs as temporary_extents
pub use Rattle.temporary_types.specs as temporary_types
pub use Rattle.edge_actions.specs.transfer_rows
pub use Rattle.typed_values.specs as typed_values
pub use Rattle.value_heights.specs as value_heights
pub mod Fits
pub mod Kinds
pub mod Typed
pub mod Edges
pub mod Tops
pub mod laws
