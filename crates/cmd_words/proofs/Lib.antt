pub mod NumberLemmas
pub mod Within
