-- The crates below, passed on to those above.
pub use Rattle.program_systems.proofs.low.edge_actions.Lists
