pub mod NumbersInTypes
pub mod ObjectsKept
pub mod TypeLaws
