pub mod Entries
pub mod Reading
pub mod StoreOrder
pub mod Taking
pub mod low
