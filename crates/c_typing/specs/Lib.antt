-- The crates below, passed on to those above.
pub use Rattle.call_graph.specs as call_graph
pub mod Views
pub mod reading
