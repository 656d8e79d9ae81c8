-- What the code makes of each cell (Changes).
pub mod Changes
