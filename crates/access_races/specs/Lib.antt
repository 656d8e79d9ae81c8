-- Which accesses race, and what a report of alarms and accesses is.
pub mod Races
pub mod Rising
pub mod reading
