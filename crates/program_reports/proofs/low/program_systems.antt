-- The crates below, passed on to those above.
pub use Rattle.post_recheck.proofs.low.program_systems.Bodies
