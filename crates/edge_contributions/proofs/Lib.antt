-- Upper bounds of lists that grow, and of joins (BoundsKept).
pub mod BoundsKept
