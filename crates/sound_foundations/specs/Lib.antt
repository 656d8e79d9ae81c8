-- What the soundness of the report asks of files that are typed and laid out.
-- The crates below, passed on to those above.
pub use Rattle.operation_laws.specs.cell_layout
pub use Rattle.operation_laws.specs.lowering
pub use Rattle.operation_laws.specs.lowering_laws
pub use Rattle.operation_laws.specs.next_action_laws
pub use Rattle.operation_laws.specs as operation_laws
pub mod Foundations
