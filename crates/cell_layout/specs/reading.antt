pub mod Counts
pub mod Limits
pub mod Waits
pub mod Parts
pub mod Placing
pub mod Tables
