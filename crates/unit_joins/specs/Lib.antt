-- What a joined text is (Joins), of which units (Parts), and why there is none (Causes).
pub mod Causes
pub mod Joins
pub mod Parts
