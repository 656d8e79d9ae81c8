pub mod LinesSoFar
