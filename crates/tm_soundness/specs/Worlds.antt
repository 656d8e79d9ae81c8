-- Worlds over lists of answers: one processor, static priorities, mutexes. One action is one step, and what leads to
-- the next action takes none.
use Rattle.std.proofs.Common.{◌≡◌, ◌<◌, true, false, ◌⊎◌, List, [], ◌∷◌}
use Rattle.tm_soundness.specs.Shape.{Shape, Operation, Content, calculation, load, load_any, store, clear, lock}
use Rattle.tm_soundness.specs.Shape.{unlock, yields, probe, given, Reads}
use Rattle.tm_soundness.specs.GraphWorlds.{Status, waiting, ready, blocked, done, Situation, GraphWorld, IsAccess}
use Rattle.tm_soundness.specs.Rows.{pick}

pub data Action (P : Shape) (O : Type 0) : Type 0 where
  a_load : (c : P.Cell) → Action P O
  a_load_any : (c : P.Cell) → Action P O
  a_store : (c : P.Cell) (v : P.Value) → Action P O
  a_choose : Action P O
  a_clear : (o : O) → Action P O
  a_lock : (m : P.Mutex) → Action P O
  a_unlock : (m : P.Mutex) → Action P O
  a_yield : Action P O
  a_probe : (m : P.Mutex) → Action P O
  a_fault : (k : P.Class) → Action P O
  a_ended : Action P O
  a_spins : Action P O

pub record Source (P : Shape) : Type 1 where
  pub Answers : Type 0
  pub Object : Type 0
  pub none : Answers
  pub told : Answers → P.Value → Answers
  pub acked : Answers → Answers
  pub next : P.Task → Answers → Action P Object
  -- the place of the next action
  pub place : P.Task → Answers → P.Place
  pub may_choose : P.Task → Answers → P.Value → Type 0
  pub typed : P.AbstractCell → P.Value → Type 0
  pub part : Object → P.Cell → Type 0
  -- the run of the configured graph over the answers comes to this node and these temporaries, where the next action
  -- leaves
  pub stands : P.Task → Answers → P.Node → P.Valuation → Type 0

module _ (P : Shape) (N : Source P) where
  pub record World : Type 0 where
    pub content : P.Cell → Content P.Value
    pub answers : P.Task → N.Answers
    pub held : P.Task → P.Held
    pub status : P.Task → Status P.Mutex

  -- a task whose next action is the end of its body is done at once
  abbrev pub settled : Action P N.Object → Status P.Mutex → Status P.Mutex
  settled a_ended st = done
  settled _ st = st

  abbrev pub released : P.Mutex → Status P.Mutex → Status P.Mutex
  released m (blocked n) = pick (P.same_mutex n m) ready (blocked n)
  released m waiting = waiting
  released m ready = ready
  released m done = done

  abbrev pub IsTop : World → P.Task → Type 0
  IsTop C s = (i : P.Task) → P.rank s < P.rank i → C.status i ≡ ready → ⊥

  abbrev pub IsHeldFree : World → P.Mutex → Type 0
  IsHeldFree C m = (i : P.Task) → P.Has (C.held i) m → ⊥

  abbrev pub SameHeld : P.Held → P.Held → Type 0
  SameHeld l h = (n : P.Mutex) → (P.Has l n → P.Has h n) × (P.Has h n → P.Has l n)

  -- s answers its action and comes to its next one; base is its status where it has not ended
  pub record Turn (C C' : World) (s : P.Task) (a : N.Answers) (base : Status P.Mutex) : Type 0 where
    pub runs : C.status s ≡ ready
    pub top : IsTop C s
    pub answers : C'.answers s ≡ a
    pub status : C'.status s ≡ settled (N.next s a) base
    pub others_answers : (i : P.Task) → (i ≡ s → ⊥) → C'.answers i ≡ C.answers i
    pub others_held : (i : P.Task) → (i ≡ s → ⊥) → C'.held i ≡ C.held i

  abbrev pub OthersStay : World → World → P.Task → Type 0
  OthersStay C C' s = (i : P.Task) → (i ≡ s → ⊥) → C'.status i ≡ C.status i

  abbrev pub SameContent : World → World → Type 0
  SameContent C C' = (c : P.Cell) → C'.content c ≡ C.content c

  pub data Step (C C' : World) : Type 0 where
    step_wakes : (s : P.Task) → C.status s ≡ waiting → C'.status s ≡ ready → OthersStay C C' s
        → ((i : P.Task) → C'.answers i ≡ C.answers i) → ((i : P.Task) → C'.held i ≡ C.held i) → SameContent C C'
        → Step C C'
    step_loads : (s : P.Task) (c : P.Cell) (v : P.Value) → N.next s (C.answers s) ≡ a_load c
        → Reads P (P.abstract_cell c) (C.content c) v → N.typed (P.abstract_cell c) v
        → Turn C C' s (N.told (C.answers s) v) ready → OthersStay C C' s → SameHeld (C'.held s) (C.held s)
        → SameContent C C' → Step C C'
    step_loads_any : (s : P.Task) (c : P.Cell) (v : P.Value) → N.next s (C.answers s) ≡ a_load_any c
        → N.may_choose s (C.answers s) v → Turn C C' s (N.told (C.answers s) v) ready → OthersStay C C' s
        → SameHeld (C'.held s) (C.held s) → SameContent C C' → Step C C'
    step_chooses : (s : P.Task) (v : P.Value) → N.next s (C.answers s) ≡ a_choose → N.may_choose s (C.answers s) v
        → Turn C C' s (N.told (C.answers s) v) ready → OthersStay C C' s → SameHeld (C'.held s) (C.held s)
        → SameContent C C' → Step C C'
    step_stores : (s : P.Task) (c : P.Cell) (v : P.Value) → N.next s (C.answers s) ≡ a_store c v
        → Turn C C' s (N.acked (C.answers s)) ready → OthersStay C C' s → SameHeld (C'.held s) (C.held s)
        → C'.content c ≡ given v → ((d : P.Cell) → (d ≡ c → ⊥) → C'.content d ≡ C.content d) → Step C C'
    step_clears : (s : P.Task) (o : N.Object) → N.next s (C.answers s) ≡ a_clear o
        → Turn C C' s (N.acked (C.answers s)) ready → OthersStay C C' s → SameHeld (C'.held s) (C.held s)
        → ((c : P.Cell) → N.part o c → C'.content c ≡ P.cleared c)
        → ((c : P.Cell) → (N.part o c → ⊥) → C'.content c ≡ C.content c) → Step C C'
    step_locks : (s : P.Task) (m : P.Mutex) → N.next s (C.answers s) ≡ a_lock m → IsHeldFree C m
        → Turn C C' s (N.acked (C.answers s)) ready → OthersStay C C' s
        → ((n : P.Mutex) → (P.Has (C'.held s) n → P.Has (C.held s) n ⊎ (n ≡ m))
        × (P.Has (C.held s) n ⊎ (n ≡ m) → P.Has (C'.held s) n)) → SameContent C C' → Step C C'
    step_blocks : (s : P.Task) (m : P.Mutex) → N.next s (C.answers s) ≡ a_lock m → (P.Has (C.held s) m → ⊥)
        → (IsHeldFree C m → ⊥) → C.status s ≡ ready → IsTop C s → C'.status s ≡ blocked m → OthersStay C C' s
        → ((i : P.Task) → C'.answers i ≡ C.answers i) → ((i : P.Task) → C'.held i ≡ C.held i) → SameContent C C'
        → Step C C'
    step_unlocks : (s : P.Task) (m : P.Mutex) → N.next s (C.answers s) ≡ a_unlock m → P.Has (C.held s) m
        → Turn C C' s (N.acked (C.answers s)) ready
        → ((i : P.Task) → (i ≡ s → ⊥) → C'.status i ≡ released m (C.status i))
        → ((n : P.Mutex) → (P.Has (C'.held s) n → P.Has (C.held s) n × (n ≡ m → ⊥))
        × (P.Has (C.held s) n → (n ≡ m → ⊥) → P.Has (C'.held s) n)) → SameContent C C' → Step C C'
    step_yields : (s : P.Task) → N.next s (C.answers s) ≡ a_yield → Turn C C' s (N.acked (C.answers s)) waiting
        → OthersStay C C' s → SameHeld (C'.held s) (C.held s) → SameContent C C' → Step C C'
    step_finds_held : (s : P.Task) (m : P.Mutex) → N.next s (C.answers s) ≡ a_probe m → (IsHeldFree C m → ⊥)
        → Turn C C' s (N.told (C.answers s) (P.bit true)) ready → OthersStay C C' s → SameHeld (C'.held s) (C.held s)
        → SameContent C C' → Step C C'
    step_finds_free : (s : P.Task) (m : P.Mutex) → N.next s (C.answers s) ≡ a_probe m → IsHeldFree C m
        → Turn C C' s (N.told (C.answers s) (P.bit false)) ready → OthersStay C C' s → SameHeld (C'.held s) (C.held s)
        → SameContent C C' → Step C C'
    step_spins : (s : P.Task) → N.next s (C.answers s) ≡ a_spins → C.status s ≡ ready → IsTop C s
        → ((i : P.Task) → C'.status i ≡ C.status i) → ((i : P.Task) → C'.answers i ≡ C.answers i)
        → ((i : P.Task) → C'.held i ≡ C.held i) → SameContent C C' → Step C C'

  -- the start: each task waits, or is done where it has nothing to do
  pub record IsStart (memory : P.Cell → Content P.Value) (C : World) : Type 0 where
    pub content : (c : P.Cell) → C.content c ≡ memory c
    pub answers : (i : P.Task) → C.answers i ≡ N.none
    pub held : (i : P.Task) (n : P.Mutex) → P.Has (C.held i) n → ⊥
    pub status : (i : P.Task) → C.status i ≡ settled (N.next i N.none) waiting

  pub data IsReached (memory : P.Cell → Content P.Value) : World → Type 0 where
    starts : {C : World} → IsStart memory C → IsReached memory C
    goes_on : {C C' : World} → IsReached memory C → Step C C' → IsReached memory C'

  -- edges without an action
  pub data Silent (i : P.Task) : P.Node → P.Valuation → P.Node → P.Valuation → Type 0 where
    still : {q : P.Node} {ρ : P.Valuation} → Silent i q ρ q ρ
    along : {ρ ρ' : P.Valuation} {q : P.Node} {σ : P.Valuation} (e : P.Edge) → P.actor e ≡ i
        → P.operation e ≡ calculation → P.does e ρ ρ' → Silent i (P.to e) ρ' q σ → Silent i (P.from e) ρ q σ

  pub record Arrives (i : P.Task) (q : P.Node) (ρ : P.Valuation) (a : N.Answers) : Type 0 where
    pub node : P.Node
    pub temps : P.Valuation
    pub way : Silent i q ρ node temps
    pub stands : N.stands i a node temps

  -- an edge of task i that leaves q with this operation
  pub record Leaves (i : P.Task) (q : P.Node) (o : Operation P.Temporary P.Mutex) : Type 0 where
    pub edge : P.Edge
    pub actor : P.actor edge ≡ i
    pub from : P.from edge ≡ q
    pub operation : P.operation edge ≡ o

  -- what the lowering, the configured graph and the law on next actions give: where a task stands, its next action is
  -- that of an edge that leaves, and the answer leads on
  pub record IsLowered (temps : P.Task → P.Valuation) : Type 0 where
    pub start : (i : P.Task) → Arrives i (P.entry i) (temps i) N.none
    pub at_load : (i : P.Task) (a : N.Answers) (q : P.Node) (ρ : P.Valuation) (c : P.Cell) → N.stands i a q ρ
        → N.next i a ≡ a_load c
        → (x : P.Temporary) × (t : P.Temporary) × (l : Leaves i q (load x t)) × IsAccess P l.edge ρ x c
        × ((v : P.Value) → N.typed (P.abstract_cell c) v → Arrives i (P.to l.edge) (P.put ρ t v) (N.told a v))
    pub at_load_any : (i : P.Task) (a : N.Answers) (q : P.Node) (ρ : P.Valuation) (c : P.Cell) → N.stands i a q ρ
        → N.next i a ≡ a_load_any c
        → (x : P.Temporary) × (l : Leaves i q (load_any x)) × IsAccess P l.edge ρ x c
        × ((v : P.Value) → N.may_choose i a v → (ρ' : P.Valuation) × P.does l.edge ρ ρ'
        × Arrives i (P.to l.edge) ρ' (N.told a v))
    pub at_choose : (i : P.Task) (a : N.Answers) (q : P.Node) (ρ : P.Valuation) → N.stands i a q ρ
        → N.next i a ≡ a_choose
        → (l : Leaves i q calculation)
        × ((v : P.Value) → N.may_choose i a v → (ρ' : P.Valuation) × P.does l.edge ρ ρ'
        × Arrives i (P.to l.edge) ρ' (N.told a v))
    pub at_store : (i : P.Task) (a : N.Answers) (q : P.Node) (ρ : P.Valuation) (c : P.Cell) (v : P.Value)
        → N.stands i a q ρ → N.next i a ≡ a_store c v
        → (x : P.Temporary) × (t : P.Temporary) × (l : Leaves i q (store x t)) × IsAccess P l.edge ρ x c
        × (P.value_of ρ t ≡ v) × Arrives i (P.to l.edge) ρ (N.acked a)
    pub at_clear : (i : P.Task) (a : N.Answers) (q : P.Node) (ρ : P.Valuation) (o : N.Object) → N.stands i a q ρ
        → N.next i a ≡ a_clear o
        → (l : Leaves i q clear)
        × ((c : P.Cell) → (P.clears l.edge c → N.part o c) × (N.part o c → P.clears l.edge c))
        × Arrives i (P.to l.edge) ρ (N.acked a)
    pub at_lock : (i : P.Task) (a : N.Answers) (q : P.Node) (ρ : P.Valuation) (m : P.Mutex) → N.stands i a q ρ
        → N.next i a ≡ a_lock m
        → (l : Leaves i q (lock m)) × ((P.Has (P.held q) m → ⊥) → Arrives i (P.to l.edge) ρ (N.acked a))
    pub at_unlock : (i : P.Task) (a : N.Answers) (q : P.Node) (ρ : P.Valuation) (m : P.Mutex) → N.stands i a q ρ
        → N.next i a ≡ a_unlock m
        → (l : Leaves i q (unlock m)) × (P.Has (P.held q) m → Arrives i (P.to l.edge) ρ (N.acked a))
    pub at_yield : (i : P.Task) (a : N.Answers) (q : P.Node) (ρ : P.Valuation) → N.stands i a q ρ
        → N.next i a ≡ a_yield → (l : Leaves i q yields) × Arrives i (P.to l.edge) ρ (N.acked a)
    pub at_held : (i : P.Task) (a : N.Answers) (q : P.Node) (ρ : P.Valuation) (m : P.Mutex) → N.stands i a q ρ
        → N.next i a ≡ a_probe m
        → (t : P.Temporary) × (l : Leaves i q (probe m t true))
        × Arrives i (P.to l.edge) (P.put ρ t (P.bit true)) (N.told a (P.bit true))
    pub at_free : (i : P.Task) (a : N.Answers) (q : P.Node) (ρ : P.Valuation) (m : P.Mutex) → N.stands i a q ρ
        → N.next i a ≡ a_probe m
        → (t : P.Temporary) × (l : Leaves i q (probe m t false))
        × ((P.Has (P.held q) m → ⊥) → Arrives i (P.to l.edge) (P.put ρ t (P.bit false)) (N.told a (P.bit false)))
    pub at_fault : (i : P.Task) (a : N.Answers) (q : P.Node) (ρ : P.Valuation) (k : P.Class) → N.stands i a q ρ
        → N.next i a ≡ a_fault k → (l : Leaves i q calculation) × P.fails l.edge ρ k
    pub at_end : (i : P.Task) (a : N.Answers) (q : P.Node) (ρ : P.Valuation) → N.stands i a q ρ → N.next i a ≡ a_ended
        → P.ends q
    pub placed : (i : P.Task) (a : N.Answers) (q : P.Node) (ρ : P.Valuation) (o : Operation P.Temporary P.Mutex)
        → N.stands i a q ρ → (N.next i a ≡ a_spins → ⊥) → (l : Leaves i q o) → P.place l.edge ≡ N.place i a
    -- the rest of the definition of configured nodes
    pub lock_gets : (e : P.Edge) (m : P.Mutex) → P.operation e ≡ lock m → (P.Has (P.held (P.from e)) m → ⊥)
        → P.Has (P.held (P.to e)) m
    pub unlock_drops : (e : P.Edge) (m : P.Mutex) → P.operation e ≡ unlock m → P.Has (P.held (P.from e)) m
        → P.Has (P.held (P.to e)) m → ⊥

  -- a world of the graphs that stands for C; a task may still have silent edges before it
  pub record IsAt (C : World) (i : P.Task) (z : Situation P) : Type 0 where
    pub arrives : Arrives i z.node z.temps (C.answers i)
    pub status : (z.status ≡ C.status i) ⊎ ((z.status ≡ waiting) × (C.status i ≡ done))
    pub held : SameHeld (P.held z.node) (C.held i)

  pub record IsImage (C : World) (w : GraphWorld P) : Type 0 where
    pub content : (c : P.Cell) → w.content c ≡ C.content c
    pub sits : (i : P.Task) → IsAt C i (w.situation i)

-- what goes wrong in a world over answers
module _ (P : Shape) (N : Source P) where
  pub data IsFault (C : World P N) (i : P.Task) : P.Class → Type 0 where
    next_fails : (k : P.Class) → N.next i (C.answers i) ≡ a_fault k → IsFault C i k
    next_relocks : (m : P.Mutex) → N.next i (C.answers i) ≡ a_lock m → P.Has (C.held i) m → IsFault C i P.lock_class
    next_unlocks_foreign : (m : P.Mutex) → N.next i (C.answers i) ≡ a_unlock m → (P.Has (C.held i) m → ⊥)
        → IsFault C i P.lock_class

  pub data NextAccesses (C : World P N) (i : P.Task) (c : P.Cell) : Type 0 where
    next_loads : N.next i (C.answers i) ≡ a_load c → NextAccesses C i c
    next_loads_any : N.next i (C.answers i) ≡ a_load_any c → NextAccesses C i c
    next_stores : (v : P.Value) → N.next i (C.answers i) ≡ a_store c v → NextAccesses C i c

  abbrev pub NextStores : World P N → P.Task → P.Cell → Type 0
  NextStores C i c = (v : P.Value) × (N.next i (C.answers i) ≡ a_store c v)

  abbrev pub IsIn : P.Task → List P.Task → Type 0
  IsIn i [] = ⊥
  IsIn i (k ∷ l) = (i ≡ k) ⊎ IsIn i l
