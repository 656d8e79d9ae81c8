-- Systems of constraints over variables (Constraints), and their closed assignments and the least one (Solutions). The
-- crates below, passed on to those above.
pub use Rattle.tm_lattice.specs as tm_lattice
pub mod Constraints
pub mod Solutions
pub mod reading
