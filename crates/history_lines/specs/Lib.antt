-- The text of a history (HistoryTexts).
pub mod HistoryTexts
