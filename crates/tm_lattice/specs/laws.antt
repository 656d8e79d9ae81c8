pub mod EntriesBelow
pub mod Keys
pub mod SelectedLaws
pub mod TableHeights
pub mod TableLaws
