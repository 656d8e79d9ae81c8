-- Fronts and slots: what stands at the nodes beside cells, and each cell at the nodes that own it; when they solve the
-- equations, and the least of these.
use Rattle.std.specs.Prelude.{◌≡◌, ℕ, ◌<◌, Bool, true, false, if◌then◌else◌, Option, Some, None, IfSome}
use Rattle.table_covers.specs.tm_lattice.declared.lattices.Lattice as lattice
use Rattle.table_covers.specs.tm_lattice.Tables.{IsBelow}
use Rattle.table_covers.specs.Systems.{System, from_of, to_of}
use Rattle.table_covers.specs.Solutions.{NodeTable, edge_count}
use Rattle.sparse_tables.specs.Sparse.{Parts, Placing}

-- the front of each node that is reached, which edges have led on, and what stands in the slot of a node and a cell
pub record Fronts (F D : Type 0) : Type 0 where
  pub front_of : ℕ → Option F
  pub is_open : ℕ → Bool
  pub slot_of : ℕ → ℕ → Option D

-- something stands there
abbrev pub IsThere : {A : Type 0} → Option A → Type 0
IsThere None = ⊥
IsThere (Some a) = Unit {0}

module _ {V F D M : Type 0} (states : lattice.Ghosts V M) (suits : ℕ → V → Type 0) (sys : System V)
    (parts : Parts V F (Option D)) (place : Placing) (is_cell : ℕ → Bool) where
  abbrev from : ℕ → ℕ
  from e = from_of sys.links e

  abbrev to : ℕ → ℕ
  to e = to_of sys.links e

  abbrev edges : ℕ
  edges = edge_count states suits sys

  -- the state has the front of the node, and each cell as it stands where it is kept
  pub record IsStateAt (a : Fronts F D) (n : ℕ) (s : V) : Type 0 where
    pub fits : suits n s
    pub front : a.front_of n ≡ Some (parts.front s)
    pub cells : (x : ℕ) → parts.cell s x ≡ a.slot_of (place.kept_at n x) x

  -- front and touched cells of what an edge brings are at most what stands where it leads, and the edge is open
  pub record IsArrived (a : Fronts F D) (e : ℕ) (t : V) : Type 0 where
    pub front : IsBelow parts.front_leq (Some (parts.front t)) (a.front_of (to e))
    pub opened : a.is_open e ≡ true
    pub touched : (x : ℕ) → place.touches e x ≡ true → parts.cell_leq (parts.cell t x) (a.slot_of (to e) x)

  -- what stands at the entry besides is at most what stands there
  pub record IsEntered (a : Fronts F D) (s : V) : Type 0 where
    pub front : IsBelow parts.front_leq (Some (parts.front s)) (a.front_of 0)
    pub cells : (x : ℕ) → parts.cell_leq (parts.cell s x) (a.slot_of 0 x)

  -- what an edge makes of a cell that it does not touch
  abbrev pub carried : ℕ → ℕ → Option D → Option D
  carried e x c = if place.carries e x then parts.carry e x c else c

  -- Fronts and slots at which the entry and each row has arrived, and each cell flows along each open edge that does
  -- not touch it, as the edge carries it, to where the end of the edge owns it.
  pub record AreMet (a : Fronts F D) : Type 0 where
    pub entry : IfSome sys.entry (IsEntered a)
    pub rows : (e : ℕ) → e < edges → (s : V) → IsStateAt a (from e) s → IfSome (sys.after e s) (IsArrived a e)
    pub flows : (e x : ℕ) → e < edges → a.is_open e ≡ true → place.owns (to e) x ≡ true → place.touches e x ≡ false
        → parts.cell_leq (carried e x (a.slot_of (place.kept_at (from e) x) x)) (a.slot_of (to e) x)
    pub round : (n x : ℕ) (s : V) → n < sys.node_count → place.owns n x ≡ true → IsStateAt a n s
        → parts.cell (sys.outward n s) x ≡ parts.cell s x

  -- the ones lie below the others
  pub record AreBelow (a b : Fronts F D) : Type 0 where
    pub front : (n : ℕ) → n < sys.node_count → IsBelow parts.front_leq (a.front_of n) (b.front_of n)
    pub opened : (e : ℕ) → e < edges → a.is_open e ≡ true → b.is_open e ≡ true
    pub slot : (n x : ℕ) → n < sys.node_count → place.owns n x ≡ true → parts.cell_leq (a.slot_of n x) (b.slot_of n x)

  -- fronts and slots are such as may stand there
  pub record AreFit (fits_front : ℕ → F → Type 0) (fits_cell : ℕ → ℕ → D → Type 0) (a : Fronts F D) : Type 0 where
    pub front : (n : ℕ) → n < sys.node_count → IfSome (a.front_of n) (fits_front n)
    pub slot : (n x : ℕ) → n < sys.node_count → place.owns n x ≡ true → IfSome (a.slot_of n x) (fits_cell n x)

  -- a state that fits its node, keeps a property and is its own rounding
  pub record IsRoundKept (kept : ℕ → V → Type 0) (n : ℕ) (s : V) : Type 0 where
    pub node : n < sys.node_count
    pub fits : suits n s
    pub is : kept n s
    pub round : sys.outward n s ≡ s

  -- what fits is at most itself, and what stands in states of a property fits
  pub record AreFitted (fits_front : ℕ → F → Type 0) (fits_cell : ℕ → ℕ → D → Type 0) (P : ℕ → V → Type 0) : Type 0
    where
      pub front_reflexive : (n : ℕ) (f : F) → fits_front n f → parts.front_leq f f
      pub cell_reflexive : (n x : ℕ) (d : D) → fits_cell n x d → parts.cell_leq (Some d) (Some d)
      pub front : (n : ℕ) (s : V) → P n s → fits_front n (parts.front s)
      pub cell : (n x : ℕ) (s : V) → P n s → IfSome (parts.cell s x) (fits_cell n x)

  -- Of the fronts and slots that fit and are met those that lie below each others of these, as far as the others lie
  -- below them. Others, at which rows may look elsewhere than where they may here, do not count.
  pub record AreLeast (fits_front : ℕ → F → Type 0) (fits_cell : ℕ → ℕ → D → Type 0) (a : Fronts F D) : Type 0 where
    pub fits : AreFit fits_front fits_cell a
    pub met : AreMet a
    pub below : (b : Fronts F D) → AreFit fits_front fits_cell b → AreMet b → AreBelow b a → AreBelow a b

  -- What of states is needed besides: each has a value at each cell, what is above something is something, the rounding
  -- of a cell depends on that cell alone, and what is carried is something where something was, and at most what is
  -- made of more. There are finitely many cells, and what is none is owned everywhere.
  pub record AreFilled : Type 0 where
    pub bound : ℕ
    pub within : (x : ℕ) → is_cell x ≡ true → x < bound
    pub there : (n x : ℕ) (s : V) → suits n s → is_cell x ≡ true → IsThere (parts.cell s x)
    pub above : (c d : Option D) → parts.cell_leq c d → IsThere c → IsThere d
    pub nothing : (c : Option D) → parts.cell_leq None c
    pub rounds : (n x : ℕ) (s t : V) → suits n s → suits n t → parts.cell s x ≡ parts.cell t x
        → parts.cell (sys.outward n s) x ≡ parts.cell (sys.outward n t) x
    pub carried : (e x : ℕ) (c : Option D) → IsThere c → IsThere (parts.carry e x c)
    pub carries : (e x n : ℕ) (s t u : V) → e < edges → place.carries e x ≡ true → suits n s → suits (from e) t
        → suits (to e) u → parts.cell_leq (parts.cell s x) (parts.cell t x)
        → parts.cell_leq (parts.carry e x (parts.cell t x)) (parts.cell u x)
        → parts.cell_leq (parts.carry e x (parts.cell s x)) (parts.cell u x)
    pub beyond : (n x : ℕ) → is_cell x ≡ false → place.owns n x ≡ true

  -- where a node has a front, each cell has something where it is kept, and so has the node where it is
  abbrev pub IsFullAt : Fronts F D → ℕ → Type 0
  IsFullAt a n = (x : ℕ) → is_cell x ≡ true
      → IsThere (a.slot_of (place.kept_at n x) x) × IsThere (a.front_of (place.kept_at n x))

  -- the table has at each node with a front the state of the node, and no other state
  abbrev pub IsStandingAt : Fronts F D → ℕ → Option V → Type 0
  IsStandingAt a n None = a.front_of n ≡ None
  IsStandingAt a n (Some s) = IsStateAt a n s

  abbrev pub IsExpanded : Fronts F D → NodeTable V → Type 0
  IsExpanded a table = (n : ℕ) → n < sys.node_count → IsStandingAt a n (table n)
