pub mod JsonReports
pub mod Laws
