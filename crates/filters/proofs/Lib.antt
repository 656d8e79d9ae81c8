pub mod Refinements
pub mod PointerFilters
pub mod PointerLaws
pub mod low
