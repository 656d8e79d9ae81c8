-- What may go wrong in a world, and what a report lists.
use Rattle.std.proofs.Common.{◌≡◌, ◌≤◌, ◌<◌, ◌⊎◌, Option, Some}
use Rattle.tm_soundness.specs.Tables.{Tables}
use Rattle.tm_soundness.specs.Shape.{Shape, calculation, load, load_any, store, lock, unlock, given, open_cell, Reads}
use Rattle.tm_soundness.specs.Shape.{Usable, IsApart}
use Rattle.tm_soundness.specs.GraphWorlds.{Status, waiting, GraphWorld, at, IsAccess}
use Rattle.tm_soundness.specs.Invariant.{Write, Writers}

module _ (P : Shape) where
  -- the next action of the edge's task may fail with the class
  pub data IsGraphFault (w : GraphWorld P) : P.Edge → P.Class → Type 0 where
    fails_calc : (e : P.Edge) (k : P.Class) (ρ : P.Valuation) (st : Status P.Mutex) → P.operation e ≡ calculation
        → w.situation (P.actor e) ≡ at P (P.from e) ρ st → P.fails e ρ k → IsGraphFault w e k
    relocks : (e : P.Edge) (m : P.Mutex) (ρ : P.Valuation) (st : Status P.Mutex) → P.operation e ≡ lock m
        → w.situation (P.actor e) ≡ at P (P.from e) ρ st → P.Has (P.held (P.from e)) m → IsGraphFault w e P.lock_class
    unlocks_foreign : (e : P.Edge) (m : P.Mutex) (ρ : P.Valuation) (st : Status P.Mutex) → P.operation e ≡ unlock m
        → w.situation (P.actor e) ≡ at P (P.from e) ρ st → (P.Has (P.held (P.from e)) m → ⊥)
        → IsGraphFault w e P.lock_class

  -- the edge accesses the cell
  pub data EdgeAccesses (e : P.Edge) (ρ : P.Valuation) (c : P.Cell) : Type 0 where
    by_load : (a t : P.Temporary) → P.operation e ≡ load a t → IsAccess P e ρ a c → EdgeAccesses e ρ c
    by_load_any : (a : P.Temporary) → P.operation e ≡ load_any a → IsAccess P e ρ a c → EdgeAccesses e ρ c
    by_store : (a v : P.Temporary) → P.operation e ≡ store a v → IsAccess P e ρ a c → EdgeAccesses e ρ c

  abbrev pub IsStore : P.Edge → Type 0
  IsStore e = (a : P.Temporary) × (v : P.Temporary) × (P.operation e ≡ store a v)

  -- the next actions of two tasks access one cell, at least one being a store
  pub record IsGraphRace (w : GraphWorld P) (e f : P.Edge) : Type 0 where
    pub differ : P.actor e ≡ P.actor f → ⊥
    pub one : P.Valuation
    pub one_status : Status P.Mutex
    pub one_here : w.situation (P.actor e) ≡ at P (P.from e) one one_status
    pub two : P.Valuation
    pub two_status : Status P.Mutex
    pub two_here : w.situation (P.actor f) ≡ at P (P.from f) two two_status
    pub cell : P.Cell
    pub one_accesses : EdgeAccesses e one cell
    pub two_accesses : EdgeAccesses f two cell
    pub some_store : IsStore e ⊎ IsStore f

module _ (P : Shape) (T : Tables P) where
  -- the report lists the places of both edges as a race
  pub record IsRaceListed (e f : P.Edge) : Type 0 where
    pub differ : P.actor e ≡ P.actor f → ⊥
    pub one_reached : (ρ : P.Valuation) × T.inside (P.from e) ρ
    pub two_reached : (ρ : P.Valuation) × T.inside (P.from f) ρ
    pub common : (x : P.AbstractCell) × T.target e x × T.target f x
    pub apart : IsApart P (P.held (P.from e)) (P.held (P.from f))
    pub some_store : IsStore P e ⊎ IsStore P f
    pub one_lower : P.rank (P.actor e) < P.rank (P.actor f) → IsApart P (P.held (P.from e)) (P.found (P.from f))
    pub two_lower : P.rank (P.actor f) < P.rank (P.actor e) → IsApart P (P.held (P.from f)) (P.found (P.from e))

  -- another task wrote the content of x last, under mutexes apart from those held at q, and i need not know it yet
  pub record IsElsewhere (i : P.Task) (q : P.Node) (x : P.AbstractCell) (last : Option (Write P))
      (rest : Type 0) : Type 0 where
    pub write : Write P
    pub is : last ≡ Some write
    pub other : write.by ≡ i → ⊥
    pub apart : IsApart P write.under (P.held q)
    pub why : (P.rank i ≤ P.rank write.by) ⊎ (((T.fresh q x → ⊥) × IsApart P write.under (P.found q)) ⊎ rest)

  -- the concurrent invariant in words, part by part
  pub record IsParts (w : GraphWorld P) (last : Writers P) : Type 0 where
    -- the temporaries lie in the state of the node
    pub inside : (i : P.Task) → T.inside (w.situation i).node (w.situation i).temps
    -- no mutex is held twice
    pub held_apart : (i k : P.Task) → (i ≡ k → ⊥)
        → IsApart P (P.held (w.situation i).node) (P.held (w.situation k).node)
    -- what a read of an own local cell may give is an own value
    pub local_within : (i : P.Task) (c : P.Cell) → P.owned (P.abstract_cell c) i → (v : P.Value)
        → Reads P (P.abstract_cell c) (w.content c) v → T.own (w.situation i).node (P.abstract_cell c) v
    -- an open cell is not stored
    pub open_unstored : (i : P.Task) (c : P.Cell) → P.owned (P.abstract_cell c) i → w.content c ≡ open_cell
        → T.stored (w.situation i).node (P.abstract_cell c) → ⊥
    -- a shared cell is never open; its content is an own value, or another task wrote it last and i looks for it in
    -- the store
    pub shared_known : (i : P.Task) (c : P.Cell) → P.shared (P.abstract_cell c)
        → (v : P.Value) × (w.content c ≡ given v)
        × (T.own (w.situation i).node (P.abstract_cell c) v
        ⊎ IsElsewhere i (w.situation i).node (P.abstract_cell c) (last c) (P.resting (w.situation i).node))
    -- what was written last stands in the weak entry of its writer and the mutexes held then
    pub writes_entered : (c : P.Cell) (v : P.Value) (wr : Write P) → P.shared (P.abstract_cell c)
        → w.content c ≡ given v → last c ≡ Some wr → T.weak wr.by wr.under (P.abstract_cell c) v
    -- and is handed over at each of these mutexes, or pending at its writer, which still holds it
    pub writes_handed : (c : P.Cell) (v : P.Value) (wr : Write P) (m : P.Mutex) → P.shared (P.abstract_cell c)
        → w.content c ≡ given v → last c ≡ Some wr → P.Has wr.under m
        → T.sync wr.by m (P.abstract_cell c) v
        ⊎ (P.Has (P.held (w.situation wr.by).node) m × T.pending (w.situation wr.by).node (P.abstract_cell c) m)
    -- a copy has the content of its cell, or another task wrote it since, out of sight
    pub copies_current : (i : P.Task) (c : P.Cell) (t : P.Temporary) → (P.resting (w.situation i).node → ⊥)
        → Usable P i c → T.copy (w.situation i).node t (P.abstract_cell c)
        → (w.content c ≡ given (P.value_of (w.situation i).temps t))
        ⊎ (P.shared (P.abstract_cell c) × IsElsewhere i (w.situation i).node (P.abstract_cell c) (last c) ⊥)
    -- while a task waits, nothing is fresh for it and no mutex found free
    pub waiting_calm : (i : P.Task) → (w.situation i).status ≡ waiting
        → ((x : P.AbstractCell) → T.fresh (w.situation i).node x → ⊥)
        × ((m : P.Mutex) → P.Has (P.found (w.situation i).node) m → ⊥)
    -- what a task has found free, no task of lower priority holds
    pub found_unheld : (i k : P.Task) → (P.resting (w.situation i).node → ⊥) → P.rank k < P.rank i
        → IsApart P (P.held (w.situation k).node) (P.found (w.situation i).node)
