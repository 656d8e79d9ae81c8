-- An example, the columns of types (Columns), and what is computed of types by those of which they are made
-- (TypeDepth).
mod Example
pub mod Columns
pub mod TypeDepth
pub mod low
