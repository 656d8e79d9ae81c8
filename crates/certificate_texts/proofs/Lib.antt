-- Words and lines that are added to a page one after another (Adding), entries of tables from a key on (Walking), the
-- words of values (Telling), texts that are written up to a limit (Cutting); how lists of lines fall into blocks (Blocks);
-- that values, states, stores, tables and pairs have one text (OneValue, OneState, OneStore, OneTable, OnePair), and that their lines are lawful (LawfulValues, Lawful), so
-- that pairs have one text (OneText);
-- where a source stands in a text (Splitting); tables with their numbers (Tabling); and that a text is whole or too long
-- (Finishing); and that numbers of programs are small (Smallness).
pub mod Adding
pub mod Walking
pub mod Listing
pub mod Telling
pub mod Cutting
pub mod Blocks
pub mod OneValue
pub mod OneState
pub mod OneStore
pub mod OneTable
pub mod OnePair
pub mod LawfulValues
pub mod Lawful
pub mod OneText
pub mod Splitting
pub mod Tabling
pub mod Finishing
pub mod Smallness
