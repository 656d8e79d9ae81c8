pub mod Kinds
pub mod Systems
