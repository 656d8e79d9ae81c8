-- What an analysis keeps (Analyses), what a pass keeps for the next one (Kept), of which what it keeps of slots
-- (Starts), and which edges use the store (StoreUses). The crates below, passed on to those above.
pub use Rattle.program_equality.specs.program_equations
pub use Rattle.program_systems.specs as program_systems
pub use Rattle.program_equality.specs.state_fits
pub use Rattle.flow_graph.specs.tm_laid
pub use Rattle.program_equality.specs.transfer_rows
pub use Rattle.body_slots.specs as body_slots
pub use Rattle.body_slots.specs.slot_numbers
pub use Rattle.body_slots.specs.row_checks
pub use Rattle.cell_touches.specs.cell_placings
pub use Rattle.table_covers.specs as table_covers
pub mod Analyses
pub mod Starts
pub mod Kept
pub mod StoreUses
pub mod laws
