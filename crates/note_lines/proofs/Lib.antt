-- Pieces of a line, one after the other (Pieces). The lines of no objects (Objects).
pub mod Pieces
pub mod Objects
