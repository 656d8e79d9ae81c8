-- The crates below, passed on to those above.
pub use Rattle.entry_states.proofs.low.task_equations.ConfiguredBodies
pub use Rattle.entry_states.proofs.low.task_equations.PlacesOfBodies
