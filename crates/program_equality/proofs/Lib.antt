-- Lists that are the same (SameLists).
pub mod SameLists
