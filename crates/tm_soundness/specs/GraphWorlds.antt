-- Worlds at the level of graphs, and their steps.
use Rattle.std.proofs.Common.{◌≡◌, ◌<◌, true, false, ◌⊎◌}
use Rattle.tm_soundness.specs.Shape.{Shape, Content, calculation, load, load_any, store, clear, lock, unlock, yields}
use Rattle.tm_soundness.specs.Shape.{probe, given, Reads, Usable}

pub data Status (M : Type 0) : Type 0 where
  waiting : Status M
  ready : Status M
  blocked : (mutex : M) → Status M
  done : Status M

module _ (P : Shape) where
  -- the situation of one task
  pub record Situation : Type 0 where
    pub node : P.Node
    pub temps : P.Valuation
    pub status : Status P.Mutex

  pub record GraphWorld : Type 0 where
    pub content : P.Cell → Content P.Value
    pub situation : P.Task → Situation

  abbrev pub at : P.Node → P.Valuation → Status P.Mutex → Situation
  at q ρ st = record { node = q; temps = ρ; status = st }

  -- no ready task has a higher priority
  abbrev pub IsFirst : GraphWorld → P.Task → Type 0
  IsFirst w s = (i : P.Task) → P.rank s < P.rank i → (w.situation i).status ≡ ready → ⊥

  -- the task of the edge is ready before it, and first
  pub record Runs (w : GraphWorld) (e : P.Edge) (ρ : P.Valuation) : Type 0 where
    pub here : w.situation (P.actor e) ≡ at (P.from e) ρ ready
    pub first : IsFirst w (P.actor e)

  -- one task comes to a situation, and all else stays
  pub record Moves (w w' : GraphWorld) (s : P.Task) (z : Situation) : Type 0 where
    pub mine : w'.situation s ≡ z
    pub others : (i : P.Task) → (i ≡ s → ⊥) → w'.situation i ≡ w.situation i

  pub record IsReleased (m : P.Mutex) (z z' : Situation) : Type 0 where
    pub node : z'.node ≡ z.node
    pub temps : z'.temps ≡ z.temps
    pub status : (z'.status ≡ z.status) ⊎ ((z.status ≡ blocked m) × (z'.status ≡ ready))

  abbrev pub IsFree : GraphWorld → P.Mutex → Type 0
  IsFree w m = (i : P.Task) → P.Has (P.held (w.situation i).node) m → ⊥

  pub data IsAwake : Status P.Mutex → Type 0 where
    awake_waiting : IsAwake waiting
    awake_ready : IsAwake ready

  abbrev pub IsSameMemory : GraphWorld → GraphWorld → Type 0
  IsSameMemory w w' = (c : P.Cell) → w'.content c ≡ w.content c

  -- where an edge's access goes
  pub record IsAccess (e : P.Edge) (ρ : P.Valuation) (a : P.Temporary) (c : P.Cell) : Type 0 where
    pub points : P.points (P.value_of ρ a) c
    pub usable : Usable P (P.actor e) c
    pub fits : P.fits e c

  pub data GraphStep (w w' : GraphWorld) : Type 0 where
    wake : (s : P.Task) (q : P.Node) (ρ : P.Valuation) → w.situation s ≡ at q ρ waiting → Moves w w' s (at q ρ ready)
        → IsSameMemory w w' → GraphStep w w'
    finish : (s : P.Task) (q : P.Node) (ρ : P.Valuation) (st : Status P.Mutex) → w.situation s ≡ at q ρ st
        → IsAwake st → P.ends q → Moves w w' s (at q ρ done) → IsSameMemory w w' → GraphStep w w'
    calculate : (e : P.Edge) (ρ ρ' : P.Valuation) (st : Status P.Mutex) → P.operation e ≡ calculation
        → w.situation (P.actor e) ≡ at (P.from e) ρ st → IsAwake st → P.does e ρ ρ'
        → Moves w w' (P.actor e) (at (P.to e) ρ' st) → IsSameMemory w w' → GraphStep w w'
    loads : (e : P.Edge) (ρ : P.Valuation) (a t : P.Temporary) (c : P.Cell) (v : P.Value) → P.operation e ≡ load a t
        → Runs w e ρ → IsAccess e ρ a c → Reads P (P.abstract_cell c) (w.content c) v
        → Moves w w' (P.actor e) (at (P.to e) (P.put ρ t v) ready) → IsSameMemory w w' → GraphStep w w'
    loads_any : (e : P.Edge) (ρ ρ' : P.Valuation) (a : P.Temporary) (c : P.Cell) → P.operation e ≡ load_any a
        → Runs w e ρ → IsAccess e ρ a c → P.does e ρ ρ'
        → Moves w w' (P.actor e) (at (P.to e) ρ' ready) → IsSameMemory w w' → GraphStep w w'
    stores : (e : P.Edge) (ρ : P.Valuation) (a v : P.Temporary) (c : P.Cell) → P.operation e ≡ store a v → Runs w e ρ
        → IsAccess e ρ a c
        → Moves w w' (P.actor e) (at (P.to e) ρ ready) → w'.content c ≡ given (P.value_of ρ v)
        → ((d : P.Cell) → (d ≡ c → ⊥) → w'.content d ≡ w.content d) → GraphStep w w'
    clearing : (e : P.Edge) (ρ : P.Valuation) → P.operation e ≡ clear → Runs w e ρ
        → Moves w w' (P.actor e) (at (P.to e) ρ ready) → ((c : P.Cell) → P.clears e c → w'.content c ≡ P.cleared c)
        → ((c : P.Cell) → (P.clears e c → ⊥) → w'.content c ≡ w.content c) → GraphStep w w'
    locks : (e : P.Edge) (ρ : P.Valuation) (m : P.Mutex) → P.operation e ≡ lock m → Runs w e ρ → IsFree w m
        → Moves w w' (P.actor e) (at (P.to e) ρ ready) → IsSameMemory w w' → GraphStep w w'
    blocks : (e : P.Edge) (ρ : P.Valuation) (m : P.Mutex) → P.operation e ≡ lock m → Runs w e ρ
        → (P.Has (P.held (P.from e)) m → ⊥) → (IsFree w m → ⊥)
        → Moves w w' (P.actor e) (at (P.from e) ρ (blocked m)) → IsSameMemory w w' → GraphStep w w'
    unlocks : (e : P.Edge) (ρ : P.Valuation) (m : P.Mutex) → P.operation e ≡ unlock m → Runs w e ρ
        → P.Has (P.held (P.from e)) m
        → w'.situation (P.actor e) ≡ at (P.to e) ρ ready
        → ((i : P.Task) → (i ≡ P.actor e → ⊥) → IsReleased m (w.situation i) (w'.situation i)) → IsSameMemory w w'
        → GraphStep w w'
    waits : (e : P.Edge) (ρ : P.Valuation) → P.operation e ≡ yields → Runs w e ρ
        → Moves w w' (P.actor e) (at (P.to e) ρ waiting) → IsSameMemory w w' → GraphStep w w'
    finds_held : (e : P.Edge) (ρ : P.Valuation) (m : P.Mutex) (t : P.Temporary) → P.operation e ≡ probe m t true
        → Runs w e ρ → (IsFree w m → ⊥)
        → Moves w w' (P.actor e) (at (P.to e) (P.put ρ t (P.bit true)) ready) → IsSameMemory w w' → GraphStep w w'
    finds_free : (e : P.Edge) (ρ : P.Valuation) (m : P.Mutex) (t : P.Temporary) → P.operation e ≡ probe m t false
        → Runs w e ρ → IsFree w m
        → Moves w w' (P.actor e) (at (P.to e) (P.put ρ t (P.bit false)) ready) → IsSameMemory w w' → GraphStep w w'

  -- a start: each task waits at its entry
  pub record IsGraphStart (memory : P.Cell → Content P.Value) (temps : P.Task
      → P.Valuation) (w : GraphWorld) : Type 0 where
    pub content : (c : P.Cell) → w.content c ≡ memory c
    pub situation : (i : P.Task) → w.situation i ≡ at (P.entry i) (temps i) waiting

  pub data IsGraphReached (memory : P.Cell → Content P.Value) (temps : P.Task → P.Valuation) : GraphWorld → Type 0 where
    start : {w : GraphWorld} → IsGraphStart memory temps w → IsGraphReached memory temps w
    after : {w w' : GraphWorld} → IsGraphReached memory temps w → GraphStep w w' → IsGraphReached memory temps w'
