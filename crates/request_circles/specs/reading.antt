-- What the code finds of a list of requests, by their numbers in it: which is a step away from which (Steps), what is
-- reached (Searches), what is taken away (Trims), and what is circular (Circles); which requests are of one class
-- (Classes), by how many steps they lead to one of them (Distances), and the rings so found (Nearest).
pub mod Steps
pub mod Searches
pub mod Trims
pub mod Circles
pub mod Classes
pub mod Distances
pub mod Nearest
