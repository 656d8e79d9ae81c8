-- The racing accesses at places (Races), and what the details of a report are (Details).
pub mod Races
pub mod Details
pub mod reading
