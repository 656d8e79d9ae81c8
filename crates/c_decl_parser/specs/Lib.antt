pub mod reading
