-- Tables of which each cell is kept at some nodes alone (Sparse), fronts and slots by which such a table is kept and
-- when they solve the equations (Fronts), and the certificate by a tree that cells are well placed (Trees). The crates
-- below, passed on to those above.
pub use Rattle.table_covers.specs as table_covers
pub mod Sparse
pub mod Fronts
pub mod Trees
pub mod laws
