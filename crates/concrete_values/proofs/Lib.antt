pub mod Far
pub mod Bases
pub mod low
