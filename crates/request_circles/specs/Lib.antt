-- Which requests for mutexes are circular, and the shortest rings that they are in.
pub mod Requests
pub mod Rings
pub mod reading
