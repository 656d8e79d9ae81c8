-- What holds of every layout (Laws), and what the code keeps (reading).
-- The crates below, passed on to those above.
pub use Rattle.tm_terms.specs.tm_cint
pub use Rattle.tm_laid.specs as tm_laid
pub use Rattle.tm_terms.specs as tm_terms
pub use Rattle.tm_typed.specs.tm_trees
pub use Rattle.tm_typed.specs as tm_typed
pub mod Laws
pub mod reading
