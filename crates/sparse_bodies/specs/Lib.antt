-- What the edges of a body make of cells that they carry (Carries). The crates below, passed on to those above.
pub use Rattle.sparse_rows.specs as sparse_rows
pub use Rattle.sparse_rows.specs.sparse_tables
pub use Rattle.task_equations.specs as task_equations
pub mod Carries
pub mod laws
