-- Lists of cells (CellLists), graphs whose edges touch cells with a tree over their nodes that says which node owns
-- what (OwnerTrees), when cells are well placed (Placed), and what is checked for it (Checks).
pub mod CellLists
pub mod OwnerTrees
pub mod Placed
pub mod Checks
pub mod Histories
pub mod reading
pub mod laws
