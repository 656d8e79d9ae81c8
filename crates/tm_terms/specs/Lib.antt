-- The crates below, passed on to those above.
pub use Rattle.tm_cint.specs as tm_cint
pub use Rattle.tm_lattice.specs as tm_lattice
pub mod Alarms
pub mod ExprSpelling
pub mod ExprTrees
pub mod Lexis
pub mod Limits
pub mod Names
pub mod Spelling
pub mod Splices
pub mod Texts
