-- What holds of every reached world: the concurrent invariant.
--
-- Throughout, i, j and k are tasks, q a node (a place with a held set and a found set), ρ a valuation of the
-- temporaries,
-- c a cell, x an abstract cell, e an edge, m a mutex, l a held set.
--
-- A small run. The tasks hi (priority 2) and lo (priority 1) share x, which is 0 at the start, and the mutex m.
-- 1. Both wait. x is known to both: its content 0 is an own value of each.
-- 2. lo wakes, locks m and does x = 5. For lo x is known, fresh, and pending at m; the last write is (lo, {m}), and the
--    store has 5 in the weak entry (lo, {m}, x). For hi x is foreign: hi waits, so nothing is fresh for it.
-- 3. hi wakes. Its load of x, with no mutex held, sees the weak entry of lo, since x is not fresh for hi. hi yields.
-- 4. lo unlocks m: what it wrote under m is handed over, so the sync entry (lo, m, x) has 5. x stays foreign for hi.
-- 5. hi wakes and locks m: the sync entries of the others are joined into its own values, so x is known to hi again.
-- So for each task a shared cell is foreign (another wrote it, and the store has it where the task looks) or known (an
-- own value, which every copy has).
use Rattle.std.proofs.Common.{◌≡◌, ◌≤◌, ◌<◌, ◌⊎◌, Option, Some}
use Rattle.tm_soundness.specs.Tables.{Tables}
use Rattle.tm_soundness.specs.Shape.{Shape, Content, given, Reads, IsApart}
use Rattle.tm_soundness.specs.GraphWorlds.{Status, waiting, blocked, done, Situation, GraphWorld}

module _ (P : Shape) where
  -- who wrote a shared cell last, and what that task held then
  pub record Write : Type 0 where
    pub by : P.Task
    pub under : P.Held

  abbrev pub Writers : Type 0
  Writers = P.Cell → Option Write

  -- such a task runs only after another one has let it
  pub data IsStopped : Status P.Mutex → Type 0 where
    stopped_blocked : {m : P.Mutex} → IsStopped (blocked m)
    stopped_done : IsStopped done

  -- a task that does not rest has found free only what no task of lower priority holds
  abbrev pub IsUnheld : P.Task → P.Node → P.Task → P.Node → Type 0
  IsUnheld i q k r = (P.resting q → ⊥) → P.rank k < P.rank i → IsApart P (P.held r) (P.found q)

  abbrev pub node_of : GraphWorld P → P.Task → P.Node
  node_of w i = (w.situation i).node

module _ (P : Shape) (T : Tables P) where
  -- why i at q need not see a write of j under l to x: q rests (its next action is a lock or the end), or j is at
  -- least as
  -- urgent, or x is not fresh and the mutexes are apart from those found free
  pub data IsHidden (i : P.Task) (q : P.Node) (x : P.AbstractCell) (j : P.Task) (l : P.Held) : Type 0 where
    by_rest : P.resting q → IsHidden i q x j l
    by_rank : P.rank i ≤ P.rank j → IsHidden i q x j l
    by_age : (T.fresh q x → ⊥) → IsApart P l (P.found q) → IsHidden i q x j l

  -- the content was written by another task, and i looks for it in the store
  pub record IsForeign (i : P.Task) (q : P.Node) (x : P.AbstractCell) (last : Option (Write P)) : Type 0 where
    pub write : Write P
    pub is : last ≡ Some write
    pub other : write.by ≡ i → ⊥
    pub apart : IsApart P write.under (P.held q)
    pub why : IsHidden i q x write.by write.under

  -- the content is an own value, and what the copies of the cell have
  pub record IsKnown (q : P.Node) (ρ : P.Valuation) (x : P.AbstractCell) (k : Content P.Value) : Type 0 where
    pub value : P.Value
    pub is : k ≡ given value
    pub own : T.own q x value
    pub copies : (t : P.Temporary) → T.copy q t x → P.value_of ρ t ≡ value

  abbrev pub IsViewed : P.Task → P.Node → P.Valuation → P.AbstractCell → Content P.Value → Option (Write P) → Type 0
  IsViewed i q ρ x k last = IsForeign i q x last ⊎ IsKnown q ρ x k

  -- the content of a local cell of the task: each value that a read may give is an own value
  pub record IsLocal (q : P.Node) (ρ : P.Valuation) (x : P.AbstractCell) (k : Content P.Value) : Type 0 where
    pub reads : (v : P.Value) → Reads P x k v → T.own q x v
    pub stored : T.stored q x → (v : P.Value) × (k ≡ given v)
    pub copies : (t : P.Temporary) → T.copy q t x → k ≡ given (P.value_of ρ t)

  -- what holds of one task: its temporaries lie in the state of its node, its local cells and the shared ones are as
  -- it views
  -- them, nothing is fresh or found while it waits, and where it is stopped its node rests
  pub record IsGood (κ : P.Cell → Content P.Value) (last : Writers P) (i : P.Task) (z : Situation P) : Type 0 where
    pub inside : T.inside z.node z.temps
    pub locals : (c : P.Cell) → P.owned (P.abstract_cell c) i → IsLocal z.node z.temps (P.abstract_cell c) (κ c)
    pub views : (c : P.Cell) → P.shared (P.abstract_cell c)
        → IsViewed i z.node z.temps (P.abstract_cell c) (κ c) (last c)
    pub calm_fresh : z.status ≡ waiting → (x : P.AbstractCell) → T.fresh z.node x → ⊥
    pub calm_found : z.status ≡ waiting → (m : P.Mutex) → P.Has (P.found z.node) m → ⊥
    pub stopped : IsStopped P z.status → P.resting z.node

  -- what was written stands in the weak entry of its writer and the mutexes held
  pub record IsEntry (wr : Write P) (x : P.AbstractCell) (k : Content P.Value) : Type 0 where
    pub value : P.Value
    pub is : k ≡ given value
    pub entered : T.weak wr.by wr.under x value

  -- what was written under m is handed over at m
  pub record IsHandedOver (wr : Write P) (m : P.Mutex) (x : P.AbstractCell) (k : Content P.Value) : Type 0 where
    pub value : P.Value
    pub is : k ≡ given value
    pub entered : T.sync wr.by m x value

  -- the writer still holds m, and will hand x over when it unlocks
  abbrev pub IsPending : P.Node → P.Mutex → P.AbstractCell → Type 0
  IsPending q m x = P.Has (P.held q) m × T.pending q x m

  -- for each mutex under which it was written, the content is handed over or pending
  abbrev pub IsSynced : Write P → P.Node → P.AbstractCell → Content P.Value → Type 0
  IsSynced wr q x k = (m : P.Mutex) → P.Has wr.under m → IsHandedOver wr m x k ⊎ IsPending q m x

  -- the concurrent invariant, for some last writers: of each task, of the held sets, of the store, and of what is
  -- found free
  pub record IsInvariant (w : GraphWorld P) (last : Writers P) : Type 0 where
    pub good : (i : P.Task) → IsGood w.content last i (w.situation i)
    pub apart : (i k : P.Task) → (i ≡ k → ⊥) → IsApart P (P.held (node_of P w i)) (P.held (node_of P w k))
    pub entries : (c : P.Cell) → P.shared (P.abstract_cell c) → (wr : Write P) → last c ≡ Some wr
        → IsEntry wr (P.abstract_cell c) (w.content c)
    pub synced : (c : P.Cell) → P.shared (P.abstract_cell c) → (wr : Write P) → last c ≡ Some wr
        → IsSynced wr (node_of P w wr.by) (P.abstract_cell c) (w.content c)
    pub unheld : (i k : P.Task) → (i ≡ k → ⊥) → IsUnheld P i (node_of P w i) k (node_of P w k)
