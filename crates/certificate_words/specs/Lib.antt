-- Lines of words (Words), the words of sets of numbers (Numbers), and lines at the front of a text (Lines).
pub mod Words
pub mod Numbers
pub mod Lines
pub mod reading
