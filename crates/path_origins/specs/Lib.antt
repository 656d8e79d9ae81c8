-- What is noted of edges, part by part (Noted, Shown); the signs `(` (Opens); what expressions give and the types of
-- what lvalues designate (Types);
-- what is noted of expressions (Expressions), of statements (Statements) and of the bodies of call paths (Bodies).
-- The crates below, passed on to those above.
pub use Rattle.part_extents.specs as part_extents
pub mod Noted
pub mod Shown
pub mod Opens
pub mod Types
pub mod Expressions
pub mod Statements
pub mod Bodies
-- How the walk stands for what is noted.
pub mod reading
