-- The fronts of a body's nodes and its cells, each by itself (FrontForms), the equations of a body as a system with
-- fronts and cells (BodySystems), and what is left to show of what code chooses (Choices). The crates below, passed on to
-- those above.
pub use Rattle.front_constraints.specs as front_constraints
pub use Rattle.sparse_bodies.specs as sparse_bodies
pub mod FrontForms
pub mod BodySystems
pub mod Choices
pub mod laws
