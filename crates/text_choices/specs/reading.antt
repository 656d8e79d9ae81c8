-- What the code keeps beside the definitions: no clause of a public call names it.
pub mod Added
pub mod Tokens
pub mod Pragmas
pub mod Files
pub mod Declared
pub mod Trees
pub mod Typed
pub mod Named
pub mod Spots
pub mod Words
pub mod Foremost
