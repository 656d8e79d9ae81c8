-- What the code has of paths (PathNotes) and of where they begin (Starts); what it puts together of these: the edges
-- (Edges), and all of a body (Gathered).
pub mod PathNotes
pub mod Starts
pub mod Edges
pub mod Gathered
