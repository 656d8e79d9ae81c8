-- What it is for places to be in order.
pub mod Order
