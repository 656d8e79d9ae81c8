pub mod Files
pub mod LogFound
mod Appending
mod Parts
pub mod ToldOnce
pub mod WaysTold
