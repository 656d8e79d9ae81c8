-- The run of a program by given choices (Runs), and what the code keeps of it (reading).
pub mod Runs
pub mod reading
