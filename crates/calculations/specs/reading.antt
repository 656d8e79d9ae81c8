-- What the code keeps while it goes through the offsets of an object (Ends).
pub mod Ends
