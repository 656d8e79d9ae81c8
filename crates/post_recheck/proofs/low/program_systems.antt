-- The crates below, passed on to those above.
pub use Rattle.shared_programs.proofs.low.program_systems.Bodies
