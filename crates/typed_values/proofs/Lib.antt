pub mod low
