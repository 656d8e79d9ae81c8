-- The least tables of a program over a store (Tables), its least solution and its report (LeastReports).
-- The crates below, passed on to those above.
pub use Rattle.program_reports.specs.post_recheck
pub use Rattle.thread_pass.specs.program_equations
pub use Rattle.thread_pass.specs.program_systems
pub use Rattle.store_limits.specs as store_limits
pub use Rattle.thread_pass.specs as thread_pass
pub use Rattle.thread_pass.specs.tm_laid
pub use Rattle.thread_pass.specs.transfer_rows
pub mod LeastReports
pub mod Tables
pub mod reading
