-- What may come next (Actions), what bodies see to (Regular), the laws (Laws), worlds (Worlds), and what initialisers
-- of
-- static storage give (InitialValues).
-- The crates below, passed on to those above.
pub use Rattle.cell_layout.specs as cell_layout
pub use Rattle.concrete_steps.specs as concrete_steps
pub use Rattle.typed_file_laws.specs as typed_file_laws
pub mod Actions
pub mod Regular
pub mod Laws
pub mod Worlds
pub mod InitialValues
