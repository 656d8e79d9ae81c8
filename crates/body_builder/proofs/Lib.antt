pub mod Prefixes
pub mod Sizes
pub mod Items
pub mod FileTables
pub mod Joining
pub mod Arguments
pub mod ExpressionLaw
pub mod Arms
