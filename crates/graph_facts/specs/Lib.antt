-- Lists of numbers (Lists), graphs whose edges join their nodes (Edges), the edges that leave each node (Leaving),
-- heads with their regions (Heads), what operations use (Uses), live temporaries (Live), and what the code keeps
-- (reading).
pub mod Lists
pub mod Edges
pub mod Leaving
pub mod Heads
pub mod Uses
pub mod Live
pub mod reading
