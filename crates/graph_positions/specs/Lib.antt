-- Layouts that serve (Layouts), what the code holds of operations (Outcomes) and memories (Memories), positions of a
-- graph (Positions), runs after some answers (RunsAfter), and what the code keeps (reading).
pub mod Layouts
pub mod Outcomes
pub mod Memories
pub mod Positions
pub mod RunsAfter
pub mod reading
