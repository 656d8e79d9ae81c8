-- What is looked for at an edge (Looks, Enumerated), marks of cells (Marks), what is found where (Found), what is left
-- over (Left), and bodies of which something is noted (Noted).
pub mod Looks
pub mod Enumerated
pub mod Marks
pub mod Found
pub mod Left
pub mod Noted
