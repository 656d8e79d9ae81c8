-- How the walk stands for what is noted.
pub mod Walks
pub mod Leaving
-- How expressions end.
pub mod Ends
-- What the walk notes of the code's own trees.
pub mod Reading
