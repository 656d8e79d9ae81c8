-- What the work list keeps of a table, what it ends with, and how many edges it applied.
use Rattle.std.specs.Prelude.{◌≡◌, ℕ, zero, suc, ◌-◌, ◌^◌, ◌<◌, ◌==◌, min, cond, List, slice_index_or, Bool, true}
use Rattle.std.specs.Prelude.{false, Option}
use Rattle.std.specs.Option.{option_map}
use Rattle.tm_lattice.specs.declared.lattices.Lattice as lattice
use Rattle.tm_lattice.specs.Tables.{joined_at}
use Rattle.table_covers.specs.Systems.{System, to_of}
use Rattle.table_covers.specs.Solutions.{NodeTable, entry_at, edge_count, along, IsNodewiseBelow, IsEdgeMet}
use Rattle.table_covers.specs.Solutions.{IsClosedTable}

module _ {V M : Type 0} (states : lattice.Ghosts V M) (suits : ℕ → V → Type 0) (sys : System V) where
  -- each edge is met or pending
  abbrev pub IsMetOrPending : NodeTable V → List Bool → Type 0
  IsMetOrPending table pending = (e : ℕ) → e < edge_count states suits sys → slice_index_or pending e true ≡ false
      → IsEdgeMet states suits sys table e

  -- the later table lies below every closed table above the earlier one
  abbrev pub IsLeastAbove : NodeTable V → NodeTable V → Type 0
  IsLeastAbove before table = (other : NodeTable V) → IsClosedTable states suits sys other
      → IsNodewiseBelow states suits sys before other → IsNodewiseBelow states suits sys table other

  -- bottom, but for what stands at the first node besides, rounded there
  abbrev pub first_table : NodeTable V
  first_table n = option_map (sys.outward n) (entry_at sys.entry n)

  -- the table after an edge is applied: what it brings is joined to what stands where it leads, and rounded there
  abbrev pub applied : ℕ → NodeTable V → NodeTable V
  applied e table n = cond (to_of sys.links e == n)
      (option_map (sys.outward n) (joined_at states.joined (table n) (along states suits sys e table))) (table n)

  -- one edge was applied
  pub record IsVisit (earlier table : NodeTable V) : Type 0 where
    pub edge : ℕ
    pub within : edge < edge_count states suits sys
    pub after : (n : ℕ) → n < sys.node_count → table n ≡ applied edge earlier n

  -- so many were, one after another
  abbrev pub IsReachedBy : ℕ → NodeTable V → NodeTable V → Type 0
  IsReachedBy zero before table = (n : ℕ) → n < sys.node_count → table n ≡ before n
  IsReachedBy (suc k) before table = (earlier : NodeTable V) × (IsReachedBy k before earlier × IsVisit earlier table)

  -- so many are told, where 2^64 - 1 stands for that many or more
  pub record IsVisited (visits : ℕ) (before table : NodeTable V) : Type 0 where
    pub count : ℕ
    pub told : visits ≡ min count (2 ^ 64 - 1)
    pub reached : IsReachedBy count before table
