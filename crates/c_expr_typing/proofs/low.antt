-- The crates below, passed on to those above.
pub mod c_folds
