pub mod Tables
pub mod Bodies
pub mod Small
