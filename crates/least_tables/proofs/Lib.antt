pub mod Following
pub mod Marking
pub mod Starts
pub mod Steps
pub mod Visits
