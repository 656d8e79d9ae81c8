pub mod Graphs
pub mod low
