-- Progress: what it is, and the laws.
-- The crates below, passed on to those above.
pub use Rattle.next_action_laws.specs as next_action_laws
pub mod Progress
