-- The words of a text (Words) and where a place stands in it (Places), patterns of words (Patterns) with their classes
-- (Classes), the rows of patterns (Rows), what they say of a place (Hints), and in which words (Sentences).
pub mod Words
pub mod Places
pub mod Classes
pub mod Patterns
pub mod Rows
pub mod Hints
pub mod Sentences
pub mod reading
