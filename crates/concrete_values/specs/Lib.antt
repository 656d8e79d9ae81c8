-- What a run is made of: values and answers (Values), what C's operators give on integers (Operators) and on pointers
-- (Pointers), and the actions of a task with the answers that fit them (Actions).
-- The crates below, passed on to those above.
pub use Rattle.tm_laid.specs as tm_laid
pub use Rattle.tm_laid.specs.tm_terms
pub use Rattle.tm_laid.specs.tm_trees
pub use Rattle.tm_laid.specs.tm_typed
pub use Rattle.tm_cint.specs as tm_cint
pub mod Values
pub mod Operators
pub mod Pointers
pub mod Actions
