-- What a program does. A task after a list of answers: what the form of an expression tells (Places), and the
-- interpreter in terms of what comes after each part (NextAction). The program: worlds and their steps (Worlds), and
-- which errors occur (Occurring).
-- The crates below, passed on to those above.
pub use Rattle.concrete_values.specs as concrete_values
pub use Rattle.tm_cint.specs as tm_cint
pub use Rattle.concrete_values.specs.tm_laid
pub use Rattle.tm_terms.specs.tm_lattice
pub use Rattle.tm_terms.specs as tm_terms
pub use Rattle.concrete_values.specs.tm_trees
pub use Rattle.concrete_values.specs.tm_typed
pub mod Places
pub mod NextAction
pub mod Worlds
pub mod Occurring
pub mod Moves
pub mod Laws
