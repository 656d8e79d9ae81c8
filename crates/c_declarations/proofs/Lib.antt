pub mod Frames
pub mod ObjectRows
pub mod InOrder
pub mod Counts
pub mod LoneTags
