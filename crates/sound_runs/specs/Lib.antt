-- What tasks do next (Sources), what their addresses lead to (Addresses), worlds as the soundness theorem has them
-- (Images), what is asked of the graphs and tables of a program (Programs), and what is known of worlds (Known).
-- The crates below, passed on to those above.
pub use Rattle.program_equations.specs as program_equations
pub use Rattle.program_shape.specs as program_shape
pub mod Sources
pub mod Addresses
pub mod Images
pub mod Programs
pub mod Known
