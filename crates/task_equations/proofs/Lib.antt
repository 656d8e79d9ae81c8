-- What mutexes are held (HeldSets), the copies of edges (CopiesOfEdges), what is live and the entry (PlacesOfBodies),
-- bodies of configured graphs (ConfiguredBodies), and a body with two nodes (Examples).
mod HeldSets
mod CopiesOfEdges
pub mod PlacesOfBodies
pub mod ConfiguredBodies
mod Examples
