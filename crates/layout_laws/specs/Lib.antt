-- The limits of layouts (Limited).
-- The crates below, passed on to those above.
pub use Rattle.cell_layout.specs as cell_layout
pub use Rattle.cell_layout.specs.tm_cint
pub use Rattle.cell_layout.specs.tm_laid
pub use Rattle.cell_layout.specs.tm_terms
pub use Rattle.cell_layout.specs.tm_trees
pub use Rattle.cell_layout.specs.tm_typed
pub mod Limited
