-- The contexts of copies and bodies (Found), their operands (Operands), what is noted of pointers (Noted), and how
-- contexts are merged (Merging).
pub mod Found
pub mod Operands
pub mod Noted
pub mod Merging
