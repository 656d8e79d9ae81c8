-- How many cells types have, and layouts (Counted), and what keeps within its limits (Kept).
pub mod Counted
pub mod Kept
pub mod low
