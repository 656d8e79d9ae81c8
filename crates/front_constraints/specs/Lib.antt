-- What stands at variables (Standings), systems whose states have fronts and cells, with the numbers of their
-- variables and constraints (Systems), the constraints (Rules), and what the parts keep (Premises). The crates below,
-- passed on to those above.
pub use Rattle.sparse_tables.specs as sparse_tables
pub use Rattle.least_assignments.specs as least_assignments
pub mod Standings
pub mod Systems
pub mod Rules
pub mod Premises
pub mod laws
