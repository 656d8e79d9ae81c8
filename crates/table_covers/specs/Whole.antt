-- The whole system: the tables of all tasks and the store that they share.
use Rattle.std.specs.Prelude.{◌≡◌, ℕ, ◌<◌, Bool, List, length, Option, Some}
use Rattle.tm_lattice.specs.declared.lattices.Lattice as lattice
use Rattle.tm_lattice.specs.declared.passers.Passer as passer
use Rattle.tm_lattice.specs.Tables.{IsBelow}
use Rattle.table_covers.specs.declared.links.Link.{Link}
use Rattle.table_covers.specs.Systems.{System, IsLawfulSystem, from_of}
use Rattle.table_covers.specs.Solutions.{NodeTable, brought, IsSolution, IsLeastSolution, IsStarted, IsClosedTable}
use Rattle.table_covers.specs.Solutions.{IsEdgeMet}

module _ {S V C : Type 0} (nodes : ℕ → ℕ) (links : ℕ → List Link) (after : ℕ → S → ℕ → V → Option V)
    (entry : C → ℕ → Option V) (outward : ℕ → ℕ → V → V) (heads : ℕ → ℕ → Bool) (height : V → ℕ) (limit : ℕ → ℕ → ℕ)
  where
    -- the equations of one task over a fixed store, after what ran before
    abbrev pub local : ℕ → S → C → System V
    local t s c = record {
      node_count = nodes t;
      links = links t;
      after = after t s;
      entry = entry c t;
      outward = outward t;
      heads = heads t;
      height = height;
      limit = limit t;
    }

-- all that the whole system is made of
module _ {S V N M C P : Type 0} (states : lattice.Ghosts V N) (nodes : ℕ → ℕ) (links : ℕ → List Link)
    (after : ℕ → S → ℕ → V → Option V) (entry : C → ℕ → Option V) (outward : ℕ → ℕ → V → V) (heads : ℕ → ℕ → Bool)
    (suits : ℕ → ℕ → V → Type 0) (height : V → ℕ) (limit : ℕ → ℕ → ℕ) (added : ℕ → S → ℕ → V → S)
    (store : lattice.Ghosts S M) (passer : passer.Ghosts P S M) (program : P)
    (Precedes : C → C → Type 0) (IsBefore : C → Type 0) where
  abbrev pub tasks : ℕ
  tasks = passer.task_count program

  -- the table solves the equations of the task over the store
  abbrev pub IsLocalSolution : ℕ → S → C → NodeTable V → Type 0
  IsLocalSolution t s c table = IsSolution states (suits t)
      (local nodes links after entry outward heads height limit t s c) table

  abbrev pub IsLocalLeast : ℕ → S → C → NodeTable V → Type 0
  IsLocalLeast t s c table = IsLeastSolution states (suits t)
      (local nodes links after entry outward heads height limit t s c) table

  abbrev pub IsLocalBelow : ℕ → NodeTable V → NodeTable V → Type 0
  IsLocalBelow t x y = (n : ℕ) → n < nodes t → IsBelow states.leq (x n) (y n)

  -- what the edge of a task contributes is at most the bound
  abbrev pub IsAddedBelow : ℕ → S → NodeTable V → S → Type 0
  IsAddedBelow t s table bound = (e : ℕ) (v : V) → e < length (links t) → table (from_of (links t) e) ≡ Some v
      → store.leq (added t s e v) bound

  -- the store is the least that holds what the edges of a task contribute
  pub record IsPass (t : ℕ) (s : S) (table : NodeTable V) (pass : S) : Type 0 where
    pub fits : passer.fits program pass
    pub holds : IsAddedBelow t s table pass
    pub least : (bound : S) → passer.fits program bound → IsAddedBelow t s table bound → store.leq pass bound

  -- the store is at least the rounded join of all contributions: the rounding of some bound of them
  pub record IsStoreCovered (tables : ℕ → NodeTable V) (s : S) : Type 0 where
    pub bound : S
    pub fits : passer.fits program bound
    pub holds : (t : ℕ) → t < tasks → IsAddedBelow t s (tables t) bound
    pub rounding : store.leq (store.rounded (passer.marks_of program) bound) s

  -- the equations raise neither the tables nor the store
  pub record IsWholeSolution (before : C) (tables : ℕ → NodeTable V) (s : S) : Type 0 where
    pub begins : IsBefore before
    pub fits : passer.fits program s
    pub locals : (t : ℕ) → t < tasks → IsLocalSolution t s before (tables t)
    pub covers : IsStoreCovered tables s

  -- a solution that lies below every solution
  pub record IsWholeLeast (before : C) (tables : ℕ → NodeTable V) (s : S) : Type 0 where
    pub solves : IsWholeSolution before tables s
    pub precedes : (other : C) (others : ℕ → NodeTable V) (s' : S) → IsWholeSolution other others s'
        → Precedes before other
    pub tables_below : (other : C) (others : ℕ → NodeTable V) (s' : S) → IsWholeSolution other others s' → (t : ℕ)
        → t < tasks → IsLocalBelow t (tables t) (others t)
    pub store_below : (other : C) (others : ℕ → NodeTable V) (s' : S) → IsWholeSolution other others s' → store.leq s s'

  -- what the parts keep
  pub record IsWholeLawful (before : C) (tables : ℕ → S → NodeTable V) : Type 0 where
    -- each task over each store that fits is a system of equations
    pub system : (t : ℕ) (s : S) (c : C) → t < tasks → passer.fits program s → IsBefore c
        → IsLawfulSystem states.is_value states.leq states.joined (suits t)
        (local nodes links after entry outward heads height limit t s c)
    -- more in the store gives more along each edge, and more contributions
    pub after_rises : (t : ℕ) (s s' : S) (e : ℕ) (v : V) → t < tasks → passer.fits program s → passer.fits program s'
        → store.leq s s' → e < length (links t) → suits t (from_of (links t) e) v
        → IsBelow states.leq (after t s e v) (after t s' e v)
    pub added_fits : (t : ℕ) (s : S) (e : ℕ) (v : V) → t < tasks → passer.fits program s → e < length (links t)
        → suits t (from_of (links t) e) v → passer.fits program (added t s e v)
    pub added_rises : (t : ℕ) (s s' : S) (e : ℕ) (v w : V) → t < tasks → passer.fits program s
        → passer.fits program s' → store.leq s s' → e < length (links t)
        → suits t (from_of (links t) e) v → suits t (from_of (links t) e) w → states.leq v w
        → store.leq (added t s e v) (added t s' e w)
    -- what runs before is the least, and more of it gives more at the entry
    pub begins : IsBefore before
    pub first : (c : C) → IsBefore c → Precedes before c
    pub entry_rises : (c c' : C) (t : ℕ) → t < tasks → IsBefore c → IsBefore c' → Precedes c c'
        → IsBelow states.leq (entry c t) (entry c' t)
    -- the least table of a task over a store, and its pass
    pub least : (t : ℕ) (s : S) → t < tasks → passer.fits program s → IsLocalLeast t s before (tables t s)
    pub passes : (t : ℕ) (s : S) → t < tasks → passer.fits program s
        → IsPass t s (tables t s) (passer.passed program t s)

  -- A table with which the work list of a task may begin over a later store, where it was the least over an earlier
  -- one: it is started there, lies below every closed table, and meets each edge that brings the same over both.
  pub record IsWarmStart (before : C) (t : ℕ) (s s' : S) (table : NodeTable V) : Type 0 where
    pub started : IsStarted states (suits t) (local nodes links after entry outward heads height limit t s' before)
        table
    pub below : (other : NodeTable V)
        → IsClosedTable states (suits t) (local nodes links after entry outward heads height limit t s' before) other
        → IsLocalBelow t table other
    pub met : (e : ℕ) → e < length (links t)
        → brought (after t s e) (table (from_of (links t) e)) ≡ brought (after t s' e) (table (from_of (links t) e))
        → IsEdgeMet states (suits t) (local nodes links after entry outward heads height limit t s' before) table e
