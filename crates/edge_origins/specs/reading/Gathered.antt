-- What is put together of a body.
use Rattle.std.specs.Prelude.{◌≡◌, ℕ, suc, ◌+◌, cond, List, [], ◌∷◌, map}
use Rattle.std.specs.List.{flat_map}
use Rattle.tm_terms.specs.declared.places.Place.{Place}
use Rattle.tm_laid.specs.Layouts.{LaidTree, first_path}
use Rattle.flow_graph.specs.declared.graphs.Graph.{Graph}
use Rattle.body_builder.specs.concrete_steps.NextAction.{function_at}
use Rattle.path_origins.specs.declared.origins.Notes.{Notes}
use Rattle.path_origins.specs.Noted.{Noted, operands_by, reload_by, overwrite_by, life_by}
use Rattle.edge_origins.specs.declared.origins.Fall.{Fall}
use Rattle.edge_origins.specs.declared.origins.BodyOrigins.{BodyOrigins}
use Rattle.edge_origins.specs.declared.starts.Start.{Start}
use Rattle.edge_origins.specs.Bodies.{AreOf}
use Rattle.edge_origins.specs.reading.PathNotes.{noted_in}
use Rattle.edge_origins.specs.reading.Starts.{AreFollowed}
use Rattle.edge_origins.specs.reading.Edges.{edges_on, AreAll}

-- what is noted of a path beside its edges, of one kind, counted from where the path begins
abbrev pub counted_on : {A : Type 0} → List Notes → (Noted → List A) → (ℕ → A → A) → Start → List A
counted_on notes of by s = map (by s.at) (of (noted_in notes s.path))

-- an end of a function at this place, on a path that begins at an edge
abbrev pub fall_by : Place → ℕ → ℕ → Fall
fall_by p at n = record { place = p; edge = at + n }

abbrev pub falls_on : LaidTree → List Notes → Start → List Fall
falls_on laid notes s =
    cond s.used (map (fall_by (function_at laid s.path).place s.at) (noted_in notes s.path).falls) []

module _ (laid : LaidTree) (notes : List Notes) where
  -- what is noted of the paths with these starts, beside the edges of a graph
  pub record IsGathered (starts : List Start) (graph : Graph) (o : BodyOrigins) : Type 0 where
    pub edges : AreAll o.edges.items (flat_map (edges_on notes) starts)
    pub forms : AreOf graph.edges.items o.edges.items
    pub operands : o.operands.items ≡ flat_map (counted_on notes (λ x. x.operands) operands_by) starts
    pub reloads : o.reloads.items ≡ flat_map (counted_on notes (λ x. x.reloads) reload_by) starts
    pub overwrites : o.overwrites.items ≡ flat_map (counted_on notes (λ x. x.overwrites) overwrite_by) starts
    pub lives : o.lives.items ≡ flat_map (counted_on notes (λ x. x.lives) life_by) starts
    pub falls : o.falls.items ≡ flat_map (falls_on laid notes) starts
    pub passings : o.passings.items ≡ flat_map (counted_on notes (λ x. x.passings) (λ at p. p)) starts

  -- that of the paths of a body, which has this graph
  pub record IsAssembled (body : ℕ) (graph : Graph) (o : BodyOrigins) : Type 0 where
    pub starts : List Start
    pub begin : AreFollowed notes (first_path laid body) starts starts
    pub gathered : IsGathered starts graph o

  -- and so for all bodies from one on, which have these graphs
  abbrev pub AreAssembled : ℕ → List Graph → List BodyOrigins → Type 0
  AreAssembled body [] [] = Unit {0}
  AreAssembled body [] (o ∷ os) = ⊥
  AreAssembled body (g ∷ gs) [] = ⊥
  AreAssembled body (g ∷ gs) (o ∷ os) = IsAssembled body g o × AreAssembled (suc body) gs os
