-- The lines of assumptions (Lines), and the list that a source is answered (Lists).
-- What the code tells of a solution.
pub mod Lines
pub mod Lists
pub mod reading
