-- How the tables of the code stand for plain lists.
pub mod reading
