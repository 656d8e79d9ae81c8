-- The order of contexts (Sorting) and of flaws (FlawOrder), edges (Edges) and bounds of values
-- (Bounds) with one more, how contexts are merged (Joined, Merged); those of classes (Noted) and copies (Adding); what
-- is wrong with pointers (Wrong), over what is read of a layout too (Reading); what contexts tell of
-- tables (Leaving, Fitting), all of it (Exact), and that it is one, and the report's (One).
mod Bounds
mod Sorting
mod FlawOrder
mod Edges
mod Joined
mod Merged
mod Noted
mod Adding
mod Wrong
mod Reading
mod Leaving
mod Fitting
mod Exact
pub mod One
