-- How the definitions see what the code holds.
pub mod Seen
pub mod Written
