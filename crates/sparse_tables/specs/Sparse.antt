-- Tables whose states have cells, and of which each cell is kept at some nodes alone.
use Rattle.std.specs.Prelude.{◌≡◌, ℕ, ◌<◌, Bool, true, false, if◌then◌else◌, Option, Some, None, IfSome}
use Rattle.table_covers.specs.tm_lattice.declared.lattices.Lattice as lattice
use Rattle.table_covers.specs.tm_lattice.Tables.{IsBelow}
use Rattle.table_covers.specs.Systems.{System, from_of, to_of}
use Rattle.table_covers.specs.Solutions.{NodeTable, edge_count, along, AreFitting, IsClosedTable}

-- what a state says beside its cells, and of each cell, with their orders; and what an edge that carries a cell makes
-- of it, whatever else stands in the state
pub record Parts (V F C : Type 0) : Type 1 where
  pub front : V → F
  pub cell : V → ℕ → C
  pub front_leq : F → F → Type 0
  pub cell_leq : C → C → Type 0
  pub carry : ℕ → ℕ → C → C

-- Which cells an edge may change by what else stands in the state, at which it may look besides the front, and which
-- it carries: those it changes one by one. And at which nodes a cell stands: those that own it. At another node it is
-- what it is at the node where it is kept.
pub record Placing : Type 0 where
  pub touches : ℕ → ℕ → Bool
  pub looks : ℕ → ℕ → Bool
  pub carries : ℕ → ℕ → Bool
  pub owns : ℕ → ℕ → Bool
  pub kept_at : ℕ → ℕ → ℕ

module _ {V F C M : Type 0} (states : lattice.Ghosts V M) (suits : ℕ → V → Type 0) (sys : System V)
    (parts : Parts V F C) (place : Placing) where
  abbrev from : ℕ → ℕ
  from e = from_of sys.links e

  abbrev to : ℕ → ℕ
  to e = to_of sys.links e

  abbrev edges : ℕ
  edges = edge_count states suits sys

  -- a state is made of its parts
  pub record AreParts : Type 0 where
    pub front_rises : (n : ℕ) (s t : V) → suits n s → suits n t → states.leq s t
        → parts.front_leq (parts.front s) (parts.front t)
    pub cell_rises : (n : ℕ) (s t : V) → suits n s → suits n t → states.leq s t → (x : ℕ)
        → parts.cell_leq (parts.cell s x) (parts.cell t x)
    pub below : (n : ℕ) (s t : V) → suits n s → suits n t → parts.front_leq (parts.front s) (parts.front t)
        → ((x : ℕ) → parts.cell_leq (parts.cell s x) (parts.cell t x)) → states.leq s t
    pub equal : (n : ℕ) (s t : V) → suits n s → suits n t → parts.front s ≡ parts.front t
        → ((x : ℕ) → parts.cell s x ≡ parts.cell t x) → s ≡ t
    pub cell_transitive : (l m n : ℕ) (s t u : V) → suits l s → suits m t → suits n u → (x : ℕ)
        → parts.cell_leq (parts.cell s x) (parts.cell t x) → parts.cell_leq (parts.cell t x) (parts.cell u x)
        → parts.cell_leq (parts.cell s x) (parts.cell u x)
    -- rounding leaves the front
    pub outward_front : (n : ℕ) (s : V) → suits n s → parts.front (sys.outward n s) ≡ parts.front s

  -- what an edge makes of a cell that it does not touch
  abbrev pub carried : ℕ → ℕ → C → C
  carried e x c = if place.carries e x then parts.carry e x c else c

  -- What code has to check of a placing, edge by edge: where a node does not own a cell, no edge to it touches or
  -- carries the cell, each edge comes from where it is kept at the same node, and it is not rounded there.
  pub record IsPlaced : Type 0 where
    pub within : (n x : ℕ) → n < sys.node_count → place.kept_at n x < sys.node_count
    pub kept : (n x : ℕ) → n < sys.node_count → place.owns (place.kept_at n x) x ≡ true
    pub own : (n x : ℕ) → place.owns n x ≡ true → place.kept_at n x ≡ n
    pub entry : (x : ℕ) → place.owns 0 x ≡ true
    pub looked : (e x : ℕ) → e < edges → place.touches e x ≡ true → place.looks e x ≡ true
    pub untouched : (e x : ℕ) → e < edges → place.owns (to e) x ≡ false → place.touches e x ≡ false
    pub uncarried : (e x : ℕ) → e < edges → place.owns (to e) x ≡ false → place.carries e x ≡ false
    pub same : (e x : ℕ) → e < edges → place.owns (to e) x ≡ false
        → place.kept_at (from e) x ≡ place.kept_at (to e) x
    pub plain : (n x : ℕ) (s : V) → n < sys.node_count → suits n s → place.owns n x ≡ false
        → parts.cell (sys.outward n s) x ≡ parts.cell s x

  -- ## Edges

  abbrev pub CarriesCell : ℕ → ℕ → V → Option V → Type 0
  CarriesCell e x s None = Unit {0}
  CarriesCell e x s (Some t) = parts.cell t x ≡ carried e x (parts.cell s x)

  -- the edge carries in this state each cell that it does not touch, and leaves those as they are that it does not carry
  abbrev pub IsFramed : ℕ → V → Type 0
  IsFramed e s = (x : ℕ) → place.touches e x ≡ false → CarriesCell e x s (sys.after e s)

  -- each edge does so in the state of the table
  abbrev pub IsFramedIn : NodeTable V → Type 0
  IsFramedIn table = (e : ℕ) → e < edges → (s : V) → table (from e) ≡ Some s → IsFramed e s

  -- and in each state below
  abbrev pub IsFramedBelow : NodeTable V → Type 0
  IsFramedBelow table = (e : ℕ) → e < edges → (s d : V) → table (from e) ≡ Some d → suits (from e) s → suits (from e) d
      → states.leq s d → IsFramed e s

  -- ## Tables

  abbrev pub SameCell : ℕ → Option V → Option V → Type 0
  SameCell x None y = Unit {0}
  SameCell x (Some s) None = ⊥
  SameCell x (Some s) (Some r) = parts.cell s x ≡ parts.cell r x

  -- each cell is what it is where it is kept
  abbrev pub IsThin : NodeTable V → Type 0
  IsThin table = (n x : ℕ) → n < sys.node_count → SameCell x (table n) (table (place.kept_at n x))

  abbrev pub CellBelow : ℕ → Option V → Option V → Type 0
  CellBelow x y None = Unit {0}
  CellBelow x None (Some s) = ⊥
  CellBelow x (Some r) (Some s) = parts.cell_leq (parts.cell r x) (parts.cell s x)

  -- each cell is at least what it is where it is kept
  abbrev pub IsFlowing : NodeTable V → Type 0
  IsFlowing table = (n x : ℕ) → n < sys.node_count → CellBelow x (table (place.kept_at n x)) (table n)

  -- the one state is below the other as far as the node owns cells
  pub record IsUnderAt (n : ℕ) (s t : V) : Type 0 where
    pub front : parts.front_leq (parts.front s) (parts.front t)
    pub cells : (x : ℕ) → place.owns n x ≡ true → parts.cell_leq (parts.cell s x) (parts.cell t x)

  abbrev pub IsOwnBelow : ℕ → Option V → Option V → Type 0
  IsOwnBelow n s t = IsBelow (IsUnderAt n) s t

  -- the one table is below the other in what nodes own
  abbrev pub AreOwnBelow : NodeTable V → NodeTable V → Type 0
  AreOwnBelow one other = (n : ℕ) → n < sys.node_count → IsOwnBelow n (one n) (other n)

  -- A thin table of which what nodes own is rounded and met. It may be kept as what nodes own, with what stands
  -- beside cells.
  pub record IsSparseClosed (table : NodeTable V) : Type 0 where
    pub fits : AreFitting states suits sys table
    pub thin : IsThin table
    pub framed : IsFramedIn table
    pub entry : IsBelow states.leq sys.entry (table 0)
    pub round : (n x : ℕ) → n < sys.node_count → place.owns n x ≡ true
        → IfSome (table n) (λ s. parts.cell (sys.outward n s) x ≡ parts.cell s x)
    pub edges : (e : ℕ) → e < edges → IsOwnBelow (to e) (along states suits sys e table) (table (to e))

  -- and that lies below each closed table in what nodes own, as far as cells flow there as they do here
  pub record IsSparseLeast (table : NodeTable V) : Type 0 where
    pub closed : IsSparseClosed table
    pub below : (other : NodeTable V) → IsClosedTable states suits sys other → IsFlowing other
        → AreOwnBelow table other

  -- ## What code computes

  -- the states are alike as far as the edge may look
  pub record AgreeOn (e : ℕ) (s t : V) : Type 0 where
    pub front : parts.front s ≡ parts.front t
    pub cells : (x : ℕ) → place.looks e x ≡ true → parts.cell s x ≡ parts.cell t x

  abbrev pub GiveAlike : ℕ → Option V → Option V → Type 0
  GiveAlike e None None = Unit {0}
  GiveAlike e None (Some t) = ⊥
  GiveAlike e (Some s) None = ⊥
  GiveAlike e (Some s) (Some t) = AgreeOn e s t

  -- the edge looks at nothing else
  abbrev pub IsLocal : ℕ → V → V → Type 0
  IsLocal e s t = AgreeOn e s t → GiveAlike e (sys.after e s) (sys.after e t)
