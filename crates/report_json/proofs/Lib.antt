pub mod JsonTexts
pub mod OneReport
pub mod ReadBack
