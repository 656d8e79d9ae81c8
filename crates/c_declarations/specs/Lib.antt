-- The objects that a declaration gives.
pub mod Locals
-- What the code's values stand for.
pub mod reading
