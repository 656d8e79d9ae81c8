-- When an edge may be applied (Applicable), and what the code of some operations gives (reading).
-- The crates below, passed on to those above.
pub use Rattle.edge_filters.specs as edge_filters
pub use Rattle.edge_filters.specs.edge_effects
pub use Rattle.edge_filters.specs.edge_actions
pub mod Applicable
pub mod reading
