pub mod Rechecks
pub mod AlongEdges
