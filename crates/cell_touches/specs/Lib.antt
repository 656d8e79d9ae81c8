-- What is said of the cells that edges touch and at which they look (Touches), and of those of a body (Bodies). The
-- crates below, passed on to those above.
pub use Rattle.cell_placings.specs as cell_placings
pub use Rattle.mutex_configs.specs as mutex_configs
pub use Rattle.row_checks.specs as row_checks
pub mod Touches
pub mod Bodies
