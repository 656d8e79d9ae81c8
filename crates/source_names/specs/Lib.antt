-- One step from an object down to a cell (Steps), the words of types (TypeWords), the tags of structures (Tags), and call
-- paths as they are shown (Paths).
pub mod Steps
pub mod TypeWords
pub mod Tags
pub mod Paths
pub mod reading
