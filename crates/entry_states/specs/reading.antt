pub mod Joining
pub mod Holdings
pub mod Leaving
