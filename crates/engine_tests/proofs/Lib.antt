pub mod CongruenceRows
pub mod EmptyFiles
pub mod IntegerRows
pub mod IntervalRows
pub mod SameAdded
pub mod Writers
