-- What the work list keeps of a table, and what it ends with (Settling).
pub mod Settling
pub mod reading
