mod Pushed
mod BodiesInOrder
