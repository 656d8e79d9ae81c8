-- The heads of places (Indices), what the list of links steps by (Links), the temporaries that hold pointers
-- (Pointers), and the views of copies (Copies).
mod Indices
mod Links
mod Pointers
mod Copies
pub mod low
