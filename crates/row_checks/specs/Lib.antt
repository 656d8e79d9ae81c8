-- Of which cells temporaries may be copies, which may be fresh, and which mutexes may be pending there (TracedCells),
-- and when an edge looks at and touches only what it may (Passing). The crates below, passed on to those above.
pub use Rattle.cell_placings.specs as cell_placings
pub use Rattle.sparse_rows.specs as sparse_rows
pub mod TracedCells
pub mod Passing
pub mod reading
pub mod laws
