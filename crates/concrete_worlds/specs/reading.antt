pub mod Starts
pub mod Standings
pub mod Turns
pub mod Clearing
pub mod Access
