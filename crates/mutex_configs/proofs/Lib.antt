pub mod Grouping
pub mod Searching
pub mod Ordered
pub mod CopyLists
pub mod Whole
pub mod low
