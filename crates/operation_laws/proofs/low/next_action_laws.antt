-- The crates below, passed on to those above.
pub use Rattle.next_action_laws.proofs.Addresses
pub use Rattle.next_action_laws.proofs.Answered
pub use Rattle.next_action_laws.proofs.GivenValues
pub use Rattle.next_action_laws.proofs.ObjectPlaces
pub use Rattle.next_action_laws.proofs.PathPlaces
pub use Rattle.next_action_laws.proofs.RegularFiles
pub use Rattle.next_action_laws.proofs.StartingCells
pub use Rattle.next_action_laws.proofs.TypePlaces
pub use Rattle.next_action_laws.proofs.WholeBodies
