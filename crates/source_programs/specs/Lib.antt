-- Which sources have a layout (LaidSources), which are accepted and which are refused (Sources), and that each has one
-- answer (Laws).
-- The crates below, passed on to those above.
pub use Rattle.program_graphs.specs as program_graphs
pub mod LaidSources
pub mod Laws
pub mod Sources
