pub mod ActionForms
pub mod Examples
pub mod LeadingCells
pub mod Lists
pub mod Ranges
pub mod low
