-- What a comparison leaves of strided sets (Partners) and of sets of pointers (PointerPartners).
-- The crates below, passed on to those above.
pub use Rattle.pointer_dom.specs as pointer_dom
pub use Rattle.strided_dom.specs as strided_dom
pub use Rattle.tm_lattice.specs as tm_lattice
pub mod Partners
pub mod PointerPartners
