-- What stands at a variable (Options), one value brought there (Raised) and several (Rises), constraints that are marked
-- (Marking), lists of one value (Everywhere), and what a step of the work list keeps, where it begins and where it ends
-- (Steps).
pub mod Everywhere
pub mod Marking
pub mod Options
pub mod Raised
pub mod Rises
pub mod Steps
