pub mod Sets
pub mod Turns
