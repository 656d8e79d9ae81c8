-- What the code's values stand for.
pub mod Values
pub mod reading
