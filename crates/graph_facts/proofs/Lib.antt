-- Rising lists (Rising), edges among others and by their numbers (Edges), heads (HeadSteps), and live temporaries (Puts,
-- Sweeps).
pub mod Rising
pub mod Edges
pub mod HeadSteps
pub mod Puts
pub mod Sweeps
