-- What is noted, part behind part.
pub mod Laws
-- What the walks note beside edges.
pub mod Beside
-- Statements, one behind another.
pub mod Leaving
-- Local objects and their cells.
pub mod Cells
-- What is noted of expressions, step by step.
pub mod Values
-- What the arms of the walk read, and those of operators and of what changes objects.
pub mod ReadTrees
pub mod Computing
-- What is noted of calls.
pub mod Calls
-- What the functions that note need.
mod Among
mod Skipping
-- Statements of each kind.
pub mod Arms
