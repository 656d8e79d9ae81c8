-- Which words are a command (Words), and what it answers (Answers).
pub mod Words
pub mod Answers
pub mod reading
