-- How tables are told apart (Codes), and whole programs as plain data (WholeLawful).
pub mod Codes
pub mod WholeLawful
