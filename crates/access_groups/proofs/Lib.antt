-- The order of accesses (Sorting), how they are merged (Merged) and grouped (Grouped); the
-- accesses of copies (Targets) and tasks (Adding), and what is noted of them (Noted); accesses that are alike (Alike);
-- the groups are those of the tables (Exact), and there is one list of them (One).
pub mod Sorting
pub mod Merged
pub mod Grouped
pub mod Targets
pub mod Adding
pub mod Noted
pub mod Alike
pub mod Exact
pub mod One
