-- What holds where a stream has taken nothing, or a front (Fronts).
pub mod Fronts
