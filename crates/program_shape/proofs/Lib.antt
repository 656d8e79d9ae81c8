-- The section as a program of one task (Alone), and tasks by their numbers (TaskNumbers).
pub mod Alone
pub mod TaskNumbers
pub mod low
