-- The crates below, passed on to those above.
pub use Rattle.mutex_configs.proofs.low.strided_dom.Members
