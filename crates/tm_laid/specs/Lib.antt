-- Bodies and their trees of calls (CallTrees), call paths (Paths), the cells of types (TypeCells), objects with their
-- cells (Objects), the limits of programs on two scales (Scales), whole layouts with their limits (Layouts), and what a
-- typed file has for them (Layable).
-- The crates below, passed on to those above.
pub use Rattle.tm_typed.specs.tm_cint
pub use Rattle.tm_typed.specs.tm_terms
pub use Rattle.tm_typed.specs.tm_trees
pub use Rattle.tm_typed.specs as tm_typed
pub mod CallTrees
pub mod Paths
pub mod TypeCells
pub mod Objects
pub mod Scales
pub mod Layouts
pub mod Layable
