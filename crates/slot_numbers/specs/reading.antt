pub mod Building
pub mod Flat
