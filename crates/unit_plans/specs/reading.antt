-- What the code keeps beside the definitions: no clause of a public call names it.
pub mod Tables
pub mod Founds
pub mod Scans
