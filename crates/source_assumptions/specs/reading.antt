-- What the code tells of a solution (Told).
pub mod Told
