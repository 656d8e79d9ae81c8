pub mod ConstantTypes
pub mod GivenLists
pub mod low
