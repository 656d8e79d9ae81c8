-- What operations use, give and do (Operations), graphs with their heads, regions and live temporaries (Graphs), runs
-- of graphs over answers (Runs), and where such a run stands (Positions).
-- The crates below, passed on to those above.
pub use Rattle.concrete_values.specs as concrete_values
pub use Rattle.concrete_values.specs.tm_laid
pub mod Operations
pub mod Graphs
pub mod Runs
pub mod Positions
