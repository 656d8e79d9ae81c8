-- How the code keeps its values.
pub mod Cells
pub mod Parts
pub mod Pushed
