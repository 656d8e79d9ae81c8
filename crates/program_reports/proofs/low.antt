-- The crates below, passed on to those above.
pub mod edge_actions
pub mod pointer_dom
pub mod post_recheck
pub mod program_systems
pub mod transfer_int
pub mod transfer_rows
