-- What the numbers of variables and constraints stand for (Names), lists of them (Numberings), and when they are those of
-- a graph whose cells are placed (Numbered). The laws say so of a system over the graph. The crates below, passed on to
-- those above.
pub use Rattle.front_constraints.specs as front_constraints
pub use Rattle.cell_placings.specs as cell_placings
pub mod Names
pub mod Numberings
pub mod Numbered
pub mod reading
pub mod laws
