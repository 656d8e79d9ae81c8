-- Which tokens part declarations (Marks), what brackets make of what stands in them (Rooms), where tokens stand and what
-- they are to the names of their units (Spots, Sights), names in their name spaces (Names), which declarations are left
-- out (Copies, LeftOut), what units have names for (Linkages), what becomes of tokens and why units are refused
-- (Plans), and what the code keeps beside these (reading).
pub mod Copies
pub mod LeftOut
pub mod Linkages
pub mod Marks
pub mod Names
pub mod Plans
pub mod Rooms
pub mod Sights
pub mod Spots
pub mod reading
