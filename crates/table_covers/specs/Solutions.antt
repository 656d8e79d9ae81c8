-- The solutions of a system of equations, and the least one.
use Rattle.std.specs.Prelude.{◌≡◌, ℕ, zero, suc, ◌+◌, ◌-◌, ◌<◌, ◌==◌, List, length, slice_index_or, Option, Some}
use Rattle.std.specs.Prelude.{None, IfSome, Bool, true, false}
use Rattle.std.specs.Option.{option_map}
use Rattle.tm_lattice.specs.declared.lattices.Lattice as lattice
use Rattle.tm_lattice.specs.Tables.{IsBelow, joined_at}
use Rattle.table_covers.specs.declared.covers.Uncovered.{Uncovered}
use Rattle.table_covers.specs.declared.covers.Uncovered.TheVariants.{Entry as the_entry, Edge as the_edge}
use Rattle.table_covers.specs.Systems.{System, from_of, to_of}

-- one state or bottom for each node
abbrev pub NodeTable : Type 0 → Type 0
NodeTable V = ℕ → Option V

-- what stands at a node in a list of states
abbrev pub at : {V : Type 0} → List (Option V) → NodeTable V
at xs n = slice_index_or xs n None

-- what an edge brings for a state or bottom
abbrev pub brought : {V : Type 0} → (V → Option V) → Option V → Option V
brought f None = None
brought f (Some v) = f v

-- what stands at the first node besides
abbrev pub entry_at : {V : Type 0} → Option V → ℕ → Option V
entry_at entry zero = entry
entry_at entry (suc n) = None

module _ {V M : Type 0} (states : lattice.Ghosts V M) (suits : ℕ → V → Type 0) (sys : System V) where
  abbrev pub edge_count : ℕ
  edge_count = length (sys.links)

  -- what an edge brings from the node that it leaves
  abbrev pub along : ℕ → NodeTable V → Option V
  along e table = brought (sys.after e) (table (from_of (sys.links) e))

  -- each state of the table fits its node
  abbrev pub AreFitting : NodeTable V → Type 0
  AreFitting table = (n : ℕ) → n < sys.node_count → IfSome (table n) (suits n)

  -- the one table is below the other at each node
  abbrev pub IsNodewiseBelow : NodeTable V → NodeTable V → Type 0
  IsNodewiseBelow s t = (n : ℕ) → n < sys.node_count → IsBelow states.leq (s n) (t n)

  -- the state or bottom is at least what the entry and all edges bring to the node
  pub record IsBound (table : NodeTable V) (n : ℕ) (bound : Option V) : Type 0 where
    pub fits : IfSome bound (suits n)
    pub entry : IsBelow states.leq (entry_at (sys.entry) n) bound
    pub edges : (e : ℕ) → e < edge_count → to_of (sys.links) e ≡ n → IsBelow states.leq (along e table) bound

  -- at the node the table is at least the rounded join of what comes there: the rounding of some bound, of which the
  -- join is the least
  pub record IsCovered (table : NodeTable V) (n : ℕ) : Type 0 where
    pub bound : Option V
    pub is_bound : IsBound table n bound
    pub rounding : IsBelow states.leq (option_map (sys.outward n) bound) (table n)

  -- a solution: the equations do not raise it
  pub record IsSolution (table : NodeTable V) : Type 0 where
    pub fits : AreFitting table
    pub covers : (n : ℕ) → n < sys.node_count → IsCovered table n

  -- a solution that lies below every solution
  pub record IsLeastSolution (table : NodeTable V) : Type 0 where
    pub solves : IsSolution table
    pub below : (other : NodeTable V) → IsSolution other → IsNodewiseBelow table other

  -- the table is at least what the edge brings
  abbrev pub IsEdgeMet : NodeTable V → ℕ → Type 0
  IsEdgeMet table e = IsBelow states.leq (along e table) (table (to_of (sys.links) e))

  -- each state of the table is its own rounding
  abbrev pub IsRound : NodeTable V → Type 0
  IsRound table = (n : ℕ) → n < sys.node_count → IfSome (table n) (λ v. sys.outward n v ≡ v)

  -- a table whose states are their own roundings and at least what the entry brings
  pub record IsStarted (table : NodeTable V) : Type 0 where
    pub fits : AreFitting table
    pub round : IsRound table
    pub entry : (n : ℕ) → n < sys.node_count → IsBelow states.leq (entry_at (sys.entry) n) (table n)

  -- and each edge is met: a solution whose states are their own roundings
  pub record IsClosedTable (table : NodeTable V) : Type 0 where
    pub started : IsStarted table
    pub edges : (e : ℕ) → e < edge_count → IsEdgeMet table e

  -- how far a state or bottom is from the top of its node
  abbrev pub room_at : ℕ → Option V → ℕ
  room_at n None = sys.limit n + 1
  room_at n (Some v) = sys.limit n - sys.height v

  -- the join of what the entry and the edges below a number bring to a node
  abbrev pub with_edge : Bool → Option V → Option V → Option V
  with_edge true x y = joined_at states.joined x y
  with_edge false x y = x

  abbrev pub gathered : ℕ → ℕ → NodeTable V → Option V
  gathered zero n table = entry_at (sys.entry) n
  gathered (suc e) n table = with_edge (to_of (sys.links) e == n) (gathered e n table) (along e table)

  -- all equations applied at once: the rounded join at each node
  abbrev pub all_applied : NodeTable V → NodeTable V
  all_applied table n = option_map (sys.outward n) (gathered edge_count n table)

  -- the equations applied again and again, from bottom
  abbrev pub iterate : ℕ → NodeTable V
  iterate zero = λ n. None
  iterate (suc k) = all_applied (iterate k)

  -- how far the nodes below a number are from the top
  abbrev pub room_below : ℕ → NodeTable V → ℕ
  room_below zero table = 0
  room_below (suc n) table = room_below n table + room_at n (table n)

  -- the least table: so many rounds suffice
  abbrev pub least_of : NodeTable V
  least_of = iterate (room_below (sys.node_count) (λ n. None))

  -- whether an edge is covered: at a head by the rounded join of what all its edges bring, else by itself
  abbrev pub IsCoveredBy : Bool → NodeTable V → ℕ → Type 0
  IsCoveredBy true table e = IsCovered table (to_of (sys.links) e)
  IsCoveredBy false table e = IsEdgeMet table e

  abbrev pub IsEdgeCovered : NodeTable V → ℕ → Type 0
  IsEdgeCovered table e = IsCoveredBy (sys.heads (to_of (sys.links) e)) table e

  abbrev pub IsEntryCovered : NodeTable V → Type 0
  IsEntryCovered table = IsBelow states.leq (sys.entry) (table 0)

  -- what is the first that is not covered: the entry comes before all edges, and each edge before those with greater
  -- numbers
  abbrev pub IsFirstUncovered : NodeTable V → Uncovered → Type 0
  IsFirstUncovered table the_entry = IsEntryCovered table → ⊥
  IsFirstUncovered table (the_edge e) = IsEntryCovered table × (e < edge_count)
      × ((i : ℕ) → i < e → IsEdgeCovered table i) × (IsEdgeCovered table e → ⊥)
