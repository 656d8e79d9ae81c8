-- The accesses of tasks (Sites), what is noted of them (Noted), how that is merged (Merging), and the groups of it
-- (Grouping).
pub mod Sites
pub mod Noted
pub mod Merging
pub mod Grouping
