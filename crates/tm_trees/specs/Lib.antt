-- The crates below, passed on to those above.
pub use Rattle.tm_terms.specs.tm_cint
pub use Rattle.tm_terms.specs.tm_lattice
pub use Rattle.tm_terms.specs as tm_terms
pub mod DeclarationSpelling
pub mod DeclarationTrees
pub mod FileSpelling
pub mod FileTrees
pub mod OpenIfs
pub mod Parsing
