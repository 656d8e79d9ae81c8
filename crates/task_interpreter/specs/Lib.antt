pub mod Runnable
pub mod reading
