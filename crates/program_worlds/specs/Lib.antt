-- Which programs have graphs along which their tasks go.
pub mod Laws
