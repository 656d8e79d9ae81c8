-- Where edges come from, put at their numbers.
use Rattle.std.specs.Prelude.{◌≡◌, ◌↔◌, ◌⊎◌, ℕ, ◌+◌, List, map, get_or, Option, Some, None, Contains}
use Rattle.std.specs.Prelude.{slice_get}
use Rattle.path_origins.specs.declared.origins.NotedEdge.{NotedEdge}
use Rattle.path_origins.specs.declared.origins.Notes.{Notes}
use Rattle.edge_origins.specs.declared.origins.EdgeOrigin.{EdgeOrigin}
use Rattle.edge_origins.specs.declared.starts.Start.{Start}
use Rattle.edge_origins.specs.reading.PathNotes.{noted_in}

-- an edge by its number
pub record AtEdge : Type 0 where
  pub number : ℕ
  pub origin : EdgeOrigin

abbrev pub at_edge : ℕ → EdgeOrigin → AtEdge
at_edge n o = record { number = n; origin = o }

-- an edge of a path that begins at an edge
abbrev pub edge_at : ℕ → ℕ → NotedEdge → AtEdge
edge_at path at e = at_edge (at + e.at) (record { path = path; place = e.place; form = e.form })

abbrev pub edges_on : List Notes → Start → List AtEdge
edges_on notes s = map (edge_at s.path s.at) (noted_in notes s.path).edges

-- these edges are put to those before
pub record ArePut (old new : List (Option EdgeOrigin)) (put : List AtEdge) : Type 0 where
  pub are : (n : ℕ) (o : EdgeOrigin) → get_or new n None ≡ Some o
      → (get_or old n None ≡ Some o) ⊎ Contains put (at_edge n o)
  pub kept : (n : ℕ) (o : EdgeOrigin) → get_or old n None ≡ Some o → get_or new n None ≡ Some o
  pub there : (n : ℕ) (o : EdgeOrigin) → Contains put (at_edge n o) → get_or new n None ≡ Some o

-- exactly these edges, each at its number
pub record AreAll (origins : List EdgeOrigin) (put : List AtEdge) : Type 0 where
  pub are : (n : ℕ) (o : EdgeOrigin) → (slice_get origins n ≡ Some o) ↔ Contains put (at_edge n o)
