pub mod Extents
pub mod Lawful
