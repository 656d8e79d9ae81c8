-- The crates below, passed on to those above.
pub use Rattle.program_reports.proofs.low.pointer_dom.Meaning
