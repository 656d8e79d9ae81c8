-- Pointers (Pointer), offsets and sets of them (Offset, OffsetSets), sets of pointers and of values (PointerSets,
-- Values), how they are given out (Forms, PointerForms), and the operations on them: arithmetic (Advances), selections
-- and dereferences (Selections), equality (Equality).
-- The crates below, passed on to those above.
pub use Rattle.strided_dom.specs as strided_dom
pub use Rattle.shared_tables.specs as shared_tables
pub use Rattle.tm_lattice.specs as tm_lattice
pub mod Offset
pub mod StridedSets
pub mod Pointer
pub mod OffsetSets
pub mod PointerSets
pub mod Values
pub mod Advances
pub mod Selections
pub mod Equality
pub mod laws
pub mod Forms
pub mod PointerForms
