-- Operations keep kinds (Kept), and steps whose variables have kinds (StepKinds). What is built from steps, plans and
-- bodies keeps them by the law of induction (BuiltKinds); so does what expressions (ExpressionKinds) and statements
-- (StatementKinds) are lowered to, by what is known of a call path (PathStages); so do whole bodies (BodyKinds), and
-- all bodies of a typed file (FileKinds).
mod Kept
mod StepKinds
mod BuiltKinds
mod ExpressionKinds
mod StatementKinds
mod PathStages
mod BodyKinds
pub mod FileKinds
pub mod low
