-- What a report is (Reports), tables that agree (Laws), and what the code finds of one body (reading).
-- The crates below, passed on to those above.
pub use Rattle.cell_env.specs as cell_env
pub use Rattle.post_recheck.specs.edge_actions
pub use Rattle.post_recheck.specs.filters
pub use Rattle.interfere_set.specs as interfere_set
pub use Rattle.post_recheck.specs.table_covers
pub use Rattle.pointer_dom.specs as pointer_dom
pub use Rattle.post_recheck.specs as post_recheck
pub use Rattle.post_recheck.specs.program_equations
pub use Rattle.post_recheck.specs.state_fits
pub use Rattle.post_recheck.specs.task_equations
pub use Rattle.post_recheck.specs.temporary_types
pub use Rattle.transfer_int.specs as transfer_int
pub use Rattle.post_recheck.specs.transfer_rows
pub use Rattle.post_recheck.specs.typed_values
pub mod Reports
pub mod Laws
pub mod reading
