-- The crates below, passed on to those above.
pub use Rattle.sound_runs.proofs.low.layout_laws.Counted
