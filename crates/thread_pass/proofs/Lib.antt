-- Tables of initial sections (SectionTables), slots of all bodies (SlotsInOrder) and what stood in them (SlotStarts),
-- tables of tasks (TaskTables), passes that go on (StartTables) and what they keep (KeptPasses), whole programs
-- (WholePrograms), and bodies that are equal (SameBodies).
mod SectionTables
mod TaskTables
mod Uses
mod StartTables
mod KeptPasses
mod SlotsInOrder
mod SlotStarts
mod WholePrograms
mod SameBodies
pub mod low
