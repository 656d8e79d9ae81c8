-- The law of induction over built graphs: what is asked of steps and plans over variables that have natures (Natures),
-- and what then holds of all that is built from steps (BuiltSteps), plans (BuiltPlans) and bodies (BuiltBodies), where
-- each form of operation keeps it. Sorts are natures (StepSorts), and each form keeps them (BuiltSorts); so what
-- expressions, statements and bodies are lowered to has sorts (ExpressionSorts, StatementSorts, BodySorts).
pub mod Growing
pub mod Within
pub mod Natures
pub mod BuiltSteps
pub mod BuiltPlans
pub mod BuiltBodies
pub mod StepSorts
pub mod Following
pub mod Settling
pub mod BuiltSorts
pub mod Conversions
pub mod ValueSorts
pub mod ExpressionSorts
pub mod StatementSorts
pub mod BodySorts
pub mod FileSorts
pub mod low
