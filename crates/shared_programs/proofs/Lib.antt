pub mod TypedTrees
pub mod IndexedSets
pub mod Programs
pub mod Tables
pub mod States
pub mod Facts
pub mod low
