pub mod Slots
pub mod Marks
