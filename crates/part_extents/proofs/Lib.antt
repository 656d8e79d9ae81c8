-- Steps down the parts of an object, and cells of types.
pub mod Depths
pub mod Counts
