-- The calls of functions (Graphs), what the answers are (Orders), laws (Laws), and what the search for an order and the
-- marking of what is reached keep (Searches, Reaching). The crates below, passed on to those above.
pub use Rattle.tm_typed.specs.tm_cint
pub use Rattle.tm_typed.specs.tm_terms
pub use Rattle.tm_typed.specs.tm_trees
pub use Rattle.tm_typed.specs as tm_typed
pub mod Graphs
pub mod Orders
pub mod Laws
pub mod Searches
pub mod Reaching
