-- Chains (Chains), marks of numbers (Marks), searches (Searching), what is taken away (Trimming), what is circular
-- (Circling), from numbers in a list to requests (Numbered), their places (Ordered), lists of places that are equal
-- (Lists), and the same requests by other names (Same).
pub mod Chains
mod Marks
mod Searching
mod Trimming
mod Circling
mod Numbered
mod Ordered
mod Lists
mod Ways
mod Noting
mod Walking
mod Shortest
pub mod Same
