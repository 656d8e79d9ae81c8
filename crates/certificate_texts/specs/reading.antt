pub mod CellLines
pub mod Counts
pub mod Cuts
pub mod Pages
pub mod Smalls
