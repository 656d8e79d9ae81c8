pub mod SameStores
