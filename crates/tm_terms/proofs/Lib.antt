pub mod ExprCalls
pub mod low
