-- Lines have one text (OneText), and sets of numbers have one list of words (OneSet). What is written is read: digits
-- (Decimals), signs (Signs), tags and words (Tags), lines (NextLines).
pub mod OneText
pub mod OneSet
pub mod Decimals
pub mod Signs
pub mod Tags
pub mod NextLines
