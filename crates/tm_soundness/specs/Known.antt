-- What is known of each reached world: where its tasks stand, that the invariant holds there, which locks are requested
-- by tasks that are blocked, and what cells hold.
--
-- A small circle. The task one holds m and is blocked at a lock of n; two holds n and is blocked at a lock of m. The
-- request of one is its lock of n, from a node that holds m; that of two is its lock of m, from a node that holds n. So
-- the first leads to the second, and the second to the first: both are circular.
use Rattle.std.proofs.Common.{◌≡◌, ◌⊎◌}
use Rattle.tm_soundness.specs.Shape.{Shape, Content, lock, given, Reads, IsApart}
use Rattle.tm_soundness.specs.Tables.{Tables}
use Rattle.tm_soundness.specs.GraphWorlds.{Situation, blocked, done}
use Rattle.tm_soundness.specs.Listing.{IsKept}
use Rattle.tm_soundness.specs.Section.{Section, alone}
use Rattle.tm_soundness.specs.Worlds.{Source, World, a_lock}
use Rattle.tm_soundness.specs.WholeWorlds.{WholeWorld, main_of, tasks_of, IsTasksStart}

-- from one to the next, over one step or more
pub data Chain {A : Type 0} (R : A → A → Type 0) : A → A → Type 0 where
  one_step : {a b : A} → R a b → Chain R a b
  more_steps : {a b c : A} → R a b → Chain R b c → Chain R a c

-- ## Requests

module _ (P : Shape) (T : Tables P) where
  -- a lock of the mutex, from a node that is reached and does not hold it
  pub record IsRequest (e : P.Edge) (m : P.Mutex) : Type 0 where
    pub operation : P.operation e ≡ lock m
    pub reached : (ρ : P.Valuation) × T.inside (P.from e) ρ
    pub not_held : P.Has (P.held (P.from e)) m → ⊥

  -- a request leads to that of another task which holds the mutex, where no mutex is held by both
  pub record Leads (e f : P.Edge) : Type 0 where
    pub mutex : P.Mutex
    pub request : IsRequest e mutex
    pub other : P.Mutex
    pub other_request : IsRequest f other
    pub differ : P.actor e ≡ P.actor f → ⊥
    pub holds : P.Has (P.held (P.from f)) mutex
    pub apart : IsApart P (P.held (P.from e)) (P.held (P.from f))

  abbrev pub IsCircular : P.Edge → Type 0
  IsCircular e = Chain Leads e e

-- ## Worlds

module _ (P : Shape) (N : Source P) where
  -- the task is blocked on a mutex that the other holds
  pub record WaitsFor (C : World P N) (i k : P.Task) : Type 0 where
    pub mutex : P.Mutex
    pub status : C.status i ≡ blocked mutex
    pub holds : P.Has (C.held k) mutex

-- the task is blocked at a lock, and its request leaves the node where it stands, at the place of that lock
pub record IsRequestOf (P : Shape) (T : Tables P) (N : Source P) (C : World P N) (i : P.Task) (q : P.Node)
    (e : P.Edge) : Type 0 where
  pub mutex : P.Mutex
  pub status : C.status i ≡ blocked mutex
  pub next : N.next i (C.answers i) ≡ a_lock mutex
  pub request : IsRequest P T e mutex
  pub actor : P.actor e ≡ i
  pub from : P.from e ≡ q
  pub place : P.place e ≡ N.place i (C.answers i)

module _ (P : Shape) (T : Tables P) (N : Source P) (memory : P.Cell → Content P.Value)
    (temps : P.Task → P.Valuation) where
  pub record IsKnown (C : World P N) : Type 0 where
    -- the invariant holds of a world of the graphs that stands for this one
    pub kept : IsKept P T N memory temps C
    -- and has each task where its next action leaves
    pub stands : (i : P.Task) → (let z : Situation P = kept.world.situation i in
        N.stands i (C.answers i) z.node z.temps)
    -- a task that is blocked requests the mutex from there
    pub requests : (i : P.Task) (m : P.Mutex) → C.status i ≡ blocked m
        → (e : P.Edge) × IsRequestOf P T N C i (kept.world.situation i).node e
    -- a circle of tasks that wait for each other is one of requests
    pub circles : (i : P.Task) → Chain (WaitsFor P N C) i i
        → (e : P.Edge) × IsCircular P T e × IsRequestOf P T N C i (kept.world.situation i).node e
    -- what a cell of static storage holds is an own value where any task stands, or in a weak entry of another one
    pub contents : (i : P.Task) (c : P.Cell) → P.shared (P.abstract_cell c)
        → (v : P.Value) × (C.content c ≡ given v)
        × (T.own (kept.world.situation i).node (P.abstract_cell c) v
        ⊎ ((k : P.Task) × (l : P.Held) × (k ≡ i → ⊥) × T.weak k l (P.abstract_cell c) v))
    -- what a read of an own local cell may give is an own value
    pub locals : (i : P.Task) (c : P.Cell) → P.owned (P.abstract_cell c) i → (v : P.Value)
        → Reads P (P.abstract_cell c) (C.content c) v → T.own (kept.world.situation i).node (P.abstract_cell c) v
    -- where there is no task, nothing has changed
    pub untouched : (P.Task → ⊥) → (c : P.Cell) → C.content c ≡ memory c

-- With an initial section: while it runs, it is known alone, and no task has left its start; after that the tasks are
-- known, over what it has left where it came to its end.
pub record IsWholeKnown (P : Shape) (T : Tables P) (N : Source P) (X : Section P) (U : Tables (alone P X))
    (O : Source (alone P X)) (memory : P.Cell → Content P.Value) (main_temps : P.Valuation)
    (temps : P.Task → P.Valuation) (w : WholeWorld P N X O) : Type 0 where
  pub before : (w.main_status ≡ done → ⊥) → IsKnown (alone P X) U O memory (λ _. main_temps) (main_of P N X O w)
      × IsTasksStart P N X O memory w
  pub after : w.main_status ≡ done → (left : World (alone P X) O) × (left.status tt ≡ done)
      × IsKnown (alone P X) U O memory (λ _. main_temps) left
      × IsKnown P T N left.content temps (tasks_of P N X O w)
