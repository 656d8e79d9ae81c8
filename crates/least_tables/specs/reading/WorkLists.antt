-- For the loop of the work list: where it begins, what a step keeps, what is left to do, and which edges leave a node.
use Rattle.std.specs.Prelude.{◌≡◌, ◌≢◌, ℕ, suc, ◌+◌, ◌*◌, ◌<◌, List, [], ◌∷◌, length, slice_index_or, Option, Some}
use Rattle.std.specs.Prelude.{None, Bool}
use Rattle.std.specs.List.{count_by}
use Rattle.tm_lattice.specs.declared.lattices.Lattice as lattice
use Rattle.table_covers.specs.declared.links.Link.{Link}
use Rattle.tm_lattice.specs.Tables.{IsBelow}
use Rattle.table_covers.specs.Systems.{System, from_of, to_of}
use Rattle.table_covers.specs.Solutions.{NodeTable, at, IsStarted, IsClosedTable, IsNodewiseBelow, edge_count, room_at}
use Rattle.table_covers.specs.Solutions.{along}
use Rattle.least_tables.specs.Settling.{IsMetOrPending, IsLeastAbove, first_table}

-- the last edge below a bound that leaves the node, None where there is none
abbrev pub IsLastBelow : List Link → ℕ → ℕ → Option ℕ → Type 0
IsLastBelow links n bound None = (e : ℕ) → e < bound → from_of links e ≢ n
IsLastBelow links n bound (Some e) = (e < bound) × (from_of links e ≡ n)
    × ((k : ℕ) → e < k → k < bound → from_of links k ≢ n)

-- for each node the last edge that leaves it, and for each edge the last one before it that leaves the same node
pub record IsIndex (links : List Link) (nodes : ℕ) (last before : List (Option ℕ)) : Type 0 where
  pub node_count : length last ≡ nodes
  pub edge_count : length before ≡ length links
  pub ends : (n : ℕ) → n < nodes → IsLastBelow links n (length links) (slice_index_or last n None)
  pub goes_on : (e : ℕ) → e < length links → IsLastBelow links (from_of links e) e (slice_index_or before e None)

module _ {V M : Type 0} (states : lattice.Ghosts V M) (suits : ℕ → V → Type 0) (sys : System V) where
  -- how far a list of states, from this node on, is from the top
  abbrev pub room : ℕ → List (Option V) → ℕ
  room n [] = 0
  room n (x ∷ xs) = room_at states suits sys n x + room (suc n) xs

  -- what is left to do
  abbrev pub left : List (Option V) → List Bool → ℕ
  left table pending = room 0 table * (edge_count states suits sys + 1) + count_by (λ b. b) pending

  -- what one step of the loop keeps, and that it goes on towards an end
  pub record IsStep (table : List (Option V)) (pending : List Bool) (table' : List (Option V))
      (pending' : List Bool) : Type 0 where
    pub started : IsStarted states suits sys (at table')
    pub met : IsMetOrPending states suits sys (at table') pending'
    pub least : IsLeastAbove states suits sys (at table) (at table')
    pub smaller : left table' pending' < left table pending

  -- where the loop begins
  pub record IsStart (table : List (Option V)) : Type 0 where
    pub nodes : length table ≡ sys.node_count
    pub first : (n : ℕ) → n < sys.node_count → at table n ≡ first_table states suits sys n
    pub started : IsStarted states suits sys (at table)
    pub below : (other : NodeTable V) → IsClosedTable states suits sys other
        → IsNodewiseBelow states suits sys (at table) other

  -- the edge leads to the node, and brings at least what stands there
  pub record IsFollowed (table : NodeTable V) (n e : ℕ) : Type 0 where
    pub within : e < edge_count states suits sys
    pub leads : to_of (sys.links) e ≡ n
    pub below : IsBelow states.leq (table (to_of (sys.links) e)) (along states suits sys e table)

  -- so does each edge that is noted at a node
  abbrev pub AreFollowed : NodeTable V → List (Option ℕ) → Type 0
  AreFollowed table followed = (n e : ℕ) → n < sys.node_count → slice_index_or followed n None ≡ Some e
      → IsFollowed table n e
