-- How the code stands for parts.
pub mod Sought
