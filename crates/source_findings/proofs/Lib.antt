-- What is told is of a source that is accepted (Solved), and is what the code tells (Told), of objects of the layout
-- (Listed); certificates that are written, and that they are certified (Certified); refusals on the usual scale
-- (Refusals).
pub mod Solved
mod Listed
pub mod Told
pub mod Certified
mod Refusals
pub mod low
