-- The texts of `waits` and `ranges` (SolutionTexts).
pub mod SolutionTexts
