-- The crates below, passed on to those above.
pub use Rattle.post_recheck.proofs.Fits
pub use Rattle.post_recheck.proofs.Found
pub use Rattle.post_recheck.proofs.Given
pub use Rattle.post_recheck.proofs.LeastPairs
pub use Rattle.post_recheck.proofs.One
