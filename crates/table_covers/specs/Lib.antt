-- Systems of equations (Systems), their solutions and the least one (Solutions), what the edges of a table contribute
-- (Passes), and the tables of all tasks with the store that they share (Whole). The crates below, passed on to those
-- above.
pub use Rattle.tm_lattice.specs as tm_lattice
pub mod Passes
pub mod Solutions
pub mod Systems
pub mod Whole
pub mod laws
