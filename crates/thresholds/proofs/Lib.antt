pub mod Ascending
pub mod Parts
pub mod Reach
pub mod Steps
pub mod low
