-- How a call ends (Statuses), streams that are read and written whole (Streams), and what a stream has taken of the
-- answers to what another told (Taken).
pub mod Statuses
pub mod Streams
pub mod Taken
pub mod reading
