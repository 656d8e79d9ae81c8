pub mod FunctionParts
