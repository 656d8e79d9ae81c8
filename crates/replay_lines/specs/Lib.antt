-- Where the source of a replay ends (Cuts), which choices stand behind it (Choices), the text that tells how they went
-- (Texts), and what the code keeps (reading).
pub mod Cuts
pub mod Choices
pub mod Texts
pub mod reading
