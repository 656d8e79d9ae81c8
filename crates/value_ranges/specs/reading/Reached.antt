-- The places that the code finds in the bodies of a program.
use Rattle.std.specs.Prelude.{◌≡◌, ◌⊎◌, ◌↔◌, ℕ, ◌<◌, ◌≤◌, List, [], length, map, get_or, Option, Some, Contains}
use Rattle.tm_terms.specs.declared.places.Place.{Place}
use Rattle.flow_graph.specs.declared.graphs.Graph.{Graph}
use Rattle.flow_graph.specs.Graphs.{Edges}
use Rattle.mutex_configs.specs.declared.nodes.ConfiguredGraph.{ConfiguredGraph}
use Rattle.mutex_configs.specs.declared.nodes.EdgeCopy.{EdgeCopy}
use Rattle.program_reports.specs.post_recheck.transfer_rows.StateForms.{State}
use Rattle.program_reports.specs.post_recheck.table_covers.Solutions.{at}
use Rattle.program_reports.specs.post_recheck.task_equations.Bodies.{no_edge, no_copy}
use Rattle.program_reports.specs.post_recheck.program_equations.Solutions.{table_at}
use Rattle.place_lists.specs.Order.{AreInOrder}
use Rattle.value_ranges.specs.Places.{ReachesAt}
use Rattle.value_ranges.specs.reading.Notes.{Below}

-- these places come to the others
abbrev pub AddsPlaces : (Place → Type 0) → List Place → List Place → Type 0
AddsPlaces P old new = (place : Place) → Contains new place ↔ (Contains old place ⊎ P place)

-- such an operation of one of the first edges stands at the place
abbrev pub IsOfEdges : Edges → ℕ → Place → Type 0
IsOfEdges edges i place = Below (λ k. (let e = get_or edges k no_edge in ReachesAt e.op place)) i

abbrev pub edges_at : List Graph → ℕ → Edges
edges_at graphs t = get_or (map (λ (g : Graph). g.edges.items) graphs) t []

abbrev pub IsOfGraphs : List Graph → ℕ → Place → Type 0
IsOfGraphs graphs i place = Below (λ t. (let g = edges_at graphs t in IsOfEdges g (length g) place)) i

-- such an operation of a copy that leaves a node with a state does
pub record IsOfCopy (edges : Edges) (copies : List EdgeCopy) (table : List (Option State)) (place : Place)
    (k : ℕ) : Type 0 where
  pub state : State
  pub is : (let c = get_or copies k no_copy in at table c.from ≡ Some state)
  pub stands : (let c = get_or copies k no_copy in let e = get_or edges c.edge no_edge in ReachesAt e.op place)

abbrev pub IsOfCopies : Edges → List EdgeCopy → List (Option State) → ℕ → Place → Type 0
IsOfCopies edges copies table i place = Below (IsOfCopy edges copies table place) i

-- each copy is of an edge, and leaves a node of the table
abbrev pub AreCopiesIn : Edges → List EdgeCopy → List (Option State) → Type 0
AreCopiesIn edges copies table = (k : ℕ) (d : EdgeCopy) → k < length copies
    → (let c = get_or copies k d in (c.edge < length edges) × (c.from < length table))

abbrev pub copies_at : List ConfiguredGraph → ℕ → List EdgeCopy
copies_at configured t = get_or (map (λ (c : ConfiguredGraph). c.copies.items) configured) t []

abbrev pub IsOfTables : List Graph → List ConfiguredGraph → List (List (Option State)) → ℕ → Place → Type 0
IsOfTables graphs configured tables i place = Below (λ t. (let copies = copies_at configured t in
    IsOfCopies (edges_at graphs t) copies (table_at tables t) (length copies) place)) i

-- each table has a graph and a configured graph, of which its copies are
pub record AreCopiesOf (graphs : List Graph) (configured : List ConfiguredGraph)
    (tables : List (List (Option State))) : Type 0 where
  pub graphs_count : length tables ≤ length graphs
  pub configured_count : length tables ≤ length configured
  pub each : (t : ℕ) → t < length tables
      → AreCopiesIn (edges_at graphs t) (copies_at configured t) (table_at tables t)

-- ## Places that are left out

-- a place that is not among others
pub record IsLeft (places others : List Place) (place : Place) (k : ℕ) : Type 0 where
  pub is : get_or places k place ≡ place
  pub other : Contains others place → ⊥

-- exactly the places that are not among the others, in order and without repeats
pub record AreLeftOut (places others left : List Place) : Type 0 where
  pub sorted : AreInOrder left
  pub exact : (place : Place) → Contains left place ↔ (Contains places place × (Contains others place → ⊥))

-- exactly the places of bodies that are not those of copies which leave a node with a state
pub record AreDeadIn (graphs : List Graph) (configured : List ConfiguredGraph) (tables : List (List (Option State)))
    (count : ℕ) (dead : List Place) : Type 0 where
  pub sorted : AreInOrder dead
  pub exact : (place : Place) → Contains dead place
      ↔ (IsOfGraphs graphs (length graphs) place × (IsOfTables graphs configured tables count place → ⊥))
