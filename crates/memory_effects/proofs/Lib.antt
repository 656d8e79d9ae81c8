pub mod Changing
pub mod Joining
pub mod Contributing
pub mod Effects
pub mod States
pub mod low
