-- States (StateForms), what an edge does (Actions), the values that calculations give (Calculations), what an access
-- reaches (Accesses), the state after each operation (Rows), and what it adds and does not exclude (Reports). What is
-- to be covered: what an operation may do on single values (Meanings), and what the state after it has to hold of that
-- (Covering); and a state that meets all premises (Premises).
-- The crates below, passed on to those above.
pub use Rattle.cell_env.specs as cell_env
pub use Rattle.operator_values.specs.filters
pub use Rattle.interfere_set.specs as interfere_set
pub use Rattle.operator_values.specs as operator_values
pub use Rattle.operator_values.specs.transfer_int
pub mod StateForms
pub mod Actions
pub mod Calculations
pub mod Accesses
pub mod Rows
pub mod Reports
pub mod Contributions
pub mod Meanings
pub mod Covering
pub mod Premises
