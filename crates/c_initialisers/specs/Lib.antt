-- The cells that an initialiser gives.
pub mod GivenCells
-- How the code keeps its values.
pub mod reading
