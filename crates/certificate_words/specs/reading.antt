-- How the code reads words: letters and bytes above the space (Letters), digits (Digits), and the first word (Firsts).
pub mod Letters
pub mod Digits
pub mod Firsts
