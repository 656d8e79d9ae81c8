-- Which answers words and bytes may get (Headline), what they promise of runs (Soundness), which statuses they come with
-- (Statuses), and that a report is one (Laws).
pub mod Headline
pub mod Laws
pub mod Soundness
pub mod Statuses
pub mod reading
