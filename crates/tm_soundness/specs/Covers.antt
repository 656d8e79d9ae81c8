-- What a solution gives for each edge, in terms of members.
use Rattle.std.proofs.Common.{◌≡◌, ◌≤◌, true, false, ◌⊎◌}
use Rattle.tm_soundness.specs.Tables.{Tables}
use Rattle.tm_soundness.specs.Shape.{Shape, Content, calculation, load, load_any, store, clear, lock, unlock, yields}
use Rattle.tm_soundness.specs.Shape.{probe, given, Reads, IsApart}
use Rattle.tm_soundness.specs.GraphWorlds.{IsAccess}

module _ (P : Shape) (T : Tables P) where
  -- task i at node q sees the value in the weak entry (writer, under, x)
  pub record IsVisible (i : P.Task) (q : P.Node) (x : P.AbstractCell) (v : P.Value) : Type 0 where
    pub writer : P.Task
    pub under : P.Held
    pub other : writer ≡ i → ⊥
    pub apart : IsApart P under (P.held q)
    pub why : (P.rank i ≤ P.rank writer) ⊎ ((T.fresh q x → ⊥) × IsApart P under (P.found q))
    pub entered : T.weak writer under x v

  pub record IsHanded (i : P.Task) (m : P.Mutex) (x : P.AbstractCell) (v : P.Value) : Type 0 where
    pub writer : P.Task
    pub other : writer ≡ i → ⊥
    pub entered : T.sync writer m x v

  -- own values and pending mutexes are passed on, and nothing becomes fresh or stored
  pub record Keeps (q q' : P.Node) : Type 0 where
    pub own : (x : P.AbstractCell) (v : P.Value) → T.own q x v → T.own q' x v
    pub pending : (x : P.AbstractCell) (m : P.Mutex) → T.pending q x m → T.pending q' x m
    pub fresh : (x : P.AbstractCell) → T.fresh q' x → T.fresh q x
    pub stored : (x : P.AbstractCell) → T.stored q' x → T.stored q x

  module _ (e : P.Edge) where
    abbrev i : P.Task
    i = P.actor e

    abbrev q : P.Node
    q = P.from e

    abbrev q' : P.Node
    q' = P.to e

    -- the copies of own local cells have values that these cells may have, and those of one cell agree: a comparison of
    -- two copies of one cell refines it by both
    pub record HasLocals (ρ : P.Valuation) : Type 0 where
      pub own : (t : P.Temporary) (x : P.AbstractCell) → T.copy q t x → P.owned x i → T.own q x (P.value_of ρ t)
      pub agree : (t u : P.Temporary) (x : P.AbstractCell) → T.copy q t x → T.copy q u x → P.owned x i
          → P.value_of ρ t ≡ P.value_of ρ u

    pub record CoversCalc (ρ ρ' : P.Valuation) : Type 0 where
      pub inside : T.inside q' ρ'
      -- an own value stays that no copy of its cell speaks against
      pub own : (x : P.AbstractCell) (v : P.Value) → T.own q x v
          → ((t : P.Temporary) → T.copy q t x → P.value_of ρ t ≡ v) → T.own q' x v
      pub copies : (t : P.Temporary) (x : P.AbstractCell) → T.copy q' t x
          → T.copy q t x × (P.value_of ρ' t ≡ P.value_of ρ t)
      pub pending : (x : P.AbstractCell) (m : P.Mutex) → T.pending q x m → T.pending q' x m
      pub fresh : (x : P.AbstractCell) → T.fresh q' x → T.fresh q x
      pub stored : (x : P.AbstractCell) → T.stored q' x → T.stored q x

    -- the one cell of the abstract cell y, from which a copy is made
    pub record IsCopied (c : P.Cell) (y : P.AbstractCell) : Type 0 where
      pub is : y ≡ P.abstract_cell c
      pub one : (d : P.Cell) → P.abstract_cell d ≡ y → d ≡ c
      pub known : P.shared y ⊎ T.stored q y

    pub record CoversLoad (ρ : P.Valuation) (t : P.Temporary) (c : P.Cell) (v : P.Value) : Type 0 where
      pub inside : T.inside q' (P.put ρ t v)
      pub keeps : Keeps q q'
      pub copies : (u : P.Temporary) (y : P.AbstractCell) → T.copy q' u y
          → (T.copy q u y × (P.value_of (P.put ρ t v) u ≡ P.value_of ρ u))
          ⊎ ((P.value_of (P.put ρ t v) u ≡ v) × IsCopied c y)

    pub record CoversStore (ρ : P.Valuation) (w : P.Value) (c : P.Cell) : Type 0 where
      pub inside : T.inside q' ρ
      pub own : T.own q' (P.abstract_cell c) w
      pub own_other : (d : P.Cell) (v : P.Value) → (d ≡ c → ⊥) → T.own q (P.abstract_cell d) v
          → T.own q' (P.abstract_cell d) v
      pub pending : (m : P.Mutex) → P.shared (P.abstract_cell c) → P.Has (P.held q) m
          → T.pending q' (P.abstract_cell c) m
      pub pending_other : (d : P.Cell) (m : P.Mutex) → (d ≡ c → ⊥) → T.pending q (P.abstract_cell d) m
          → T.pending q' (P.abstract_cell d) m
      pub fresh_other : (d : P.Cell) → (d ≡ c → ⊥) → T.fresh q' (P.abstract_cell d) → T.fresh q (P.abstract_cell d)
      pub stored_other : (d : P.Cell) → (d ≡ c → ⊥) → T.stored q' (P.abstract_cell d) → T.stored q (P.abstract_cell d)
      pub copies : (t : P.Temporary) (y : P.AbstractCell) → T.copy q' t y → T.copy q t y × (y ≡ P.abstract_cell c → ⊥)
      pub added : P.shared (P.abstract_cell c) → T.weak i (P.held q) (P.abstract_cell c) w

    pub record CoversClear (ρ : P.Valuation) : Type 0 where
      pub inside : T.inside q' ρ
      pub own : (c : P.Cell) (v : P.Value) → P.clears e c → Reads P (P.abstract_cell c) (P.cleared c) v
          → T.own q' (P.abstract_cell c) v
      pub own_other : (c : P.Cell) (v : P.Value) → (P.clears e c → ⊥) → T.own q (P.abstract_cell c) v
          → T.own q' (P.abstract_cell c) v
      pub pending : (x : P.AbstractCell) (m : P.Mutex) → T.pending q x m → T.pending q' x m
      pub fresh : (x : P.AbstractCell) → T.fresh q' x → T.fresh q x
      pub stored : (c : P.Cell) → T.stored q' (P.abstract_cell c) → T.stored q (P.abstract_cell c) × (P.clears e c → ⊥)
      pub copies : (c : P.Cell) (t : P.Temporary) → T.copy q' t (P.abstract_cell c)
          → T.copy q t (P.abstract_cell c) × (P.clears e c → ⊥)

    pub record CoversLock (ρ : P.Valuation) (m : P.Mutex) : Type 0 where
      pub inside : T.inside q' ρ
      pub keeps : Keeps q q'
      pub handed : (x : P.AbstractCell) (v : P.Value) → P.shared x → IsHanded i m x v → T.own q' x v
      pub fresh : (x : P.AbstractCell) → T.fresh q' x → ⊥
      pub copies : (t : P.Temporary) (x : P.AbstractCell) → T.copy q' t x → ⊥

    pub record CoversUnlock (ρ : P.Valuation) (m : P.Mutex) : Type 0 where
      pub inside : T.inside q' ρ
      pub own : (x : P.AbstractCell) (v : P.Value) → T.own q x v → T.own q' x v
      pub pending : (x : P.AbstractCell) (n : P.Mutex) → (n ≡ m → ⊥) → T.pending q x n → T.pending q' x n
      pub fresh : (x : P.AbstractCell) → T.fresh q' x → T.fresh q x
      pub stored : (x : P.AbstractCell) → T.stored q' x → T.stored q x
      pub copies : (t : P.Temporary) (x : P.AbstractCell) → T.copy q' t x → T.copy q t x
      pub added : (x : P.AbstractCell) (v : P.Value) → P.shared x → T.pending q x m → T.own q x v → T.sync i m x v

    pub record CoversYield (ρ : P.Valuation) : Type 0 where
      pub inside : T.inside q' ρ
      pub keeps : Keeps q q'
      pub fresh : (x : P.AbstractCell) → T.fresh q' x → ⊥
      pub copies : (t : P.Temporary) (x : P.AbstractCell) → T.copy q' t x → T.copy q t x

    pub record CoversHeld (ρ ρ' : P.Valuation) : Type 0 where
      pub inside : T.inside q' ρ'
      pub keeps : Keeps q q'
      pub copies : (t : P.Temporary) (x : P.AbstractCell) → T.copy q' t x
          → T.copy q t x × (P.value_of ρ' t ≡ P.value_of ρ t)

    pub record CoversFree (ρ : P.Valuation) (m : P.Mutex) : Type 0 where
      pub inside : T.inside q' ρ
      pub keeps : Keeps q q'
      pub handed : (x : P.AbstractCell) (v : P.Value) → P.shared x → IsHanded i m x v → T.own q' x v
      pub copies : (t : P.Temporary) (x : P.AbstractCell) → T.copy q' t x → ⊥

  -- the table and the store cover each edge
  pub record IsSolution : Type 0 where
    pub calcs : (e : P.Edge) (ρ ρ' : P.Valuation) → P.operation e ≡ calculation → T.inside (P.from e) ρ
        → HasLocals e ρ → P.does e ρ ρ' → CoversCalc e ρ ρ'
    pub loads : (e : P.Edge) (ρ : P.Valuation) (a t : P.Temporary) (c : P.Cell) (v : P.Value)
        → P.operation e ≡ load a t → T.inside (P.from e) ρ → IsAccess P e ρ a c
        → T.own (P.from e) (P.abstract_cell c) v
        ⊎ (P.shared (P.abstract_cell c) × IsVisible (P.actor e) (P.from e) (P.abstract_cell c) v) → CoversLoad e ρ t c v
    pub loads_any : (e : P.Edge) (ρ ρ' : P.Valuation) (a : P.Temporary) (c : P.Cell) → P.operation e ≡ load_any a
        → T.inside (P.from e) ρ → HasLocals e ρ → IsAccess P e ρ a c → P.does e ρ ρ' → CoversCalc e ρ ρ'
    pub stores : (e : P.Edge) (ρ : P.Valuation) (a v : P.Temporary) (c : P.Cell) → P.operation e ≡ store a v
        → T.inside (P.from e) ρ → IsAccess P e ρ a c → CoversStore e ρ (P.value_of ρ v) c
    pub clears : (e : P.Edge) (ρ : P.Valuation) → P.operation e ≡ clear → T.inside (P.from e) ρ → CoversClear e ρ
    pub locks : (e : P.Edge) (ρ : P.Valuation) (m : P.Mutex) → P.operation e ≡ lock m → T.inside (P.from e) ρ
        → (P.Has (P.held (P.from e)) m → ⊥) → CoversLock e ρ m
    pub unlocks : (e : P.Edge) (ρ : P.Valuation) (m : P.Mutex) → P.operation e ≡ unlock m → T.inside (P.from e) ρ
        → P.Has (P.held (P.from e)) m → CoversUnlock e ρ m
    pub waits : (e : P.Edge) (ρ : P.Valuation) → P.operation e ≡ yields → T.inside (P.from e) ρ → CoversYield e ρ
    pub finds_held : (e : P.Edge) (ρ : P.Valuation) (m : P.Mutex) (t : P.Temporary) → P.operation e ≡ probe m t true
        → T.inside (P.from e) ρ → CoversHeld e ρ (P.put ρ t (P.bit true))
    pub finds_free : (e : P.Edge) (ρ : P.Valuation) (m : P.Mutex) (t : P.Temporary) → P.operation e ≡ probe m t false
        → T.inside (P.from e) ρ → (P.Has (P.held (P.from e)) m → ⊥)
        → CoversFree e (P.put ρ t (P.bit false)) m
    -- classes and targets
    pub listed_calc : (e : P.Edge) (ρ : P.Valuation) (k : P.Class) → P.operation e ≡ calculation
        → T.inside (P.from e) ρ → P.fails e ρ k → T.listed e k
    pub listed_lock : (e : P.Edge) (ρ : P.Valuation) (m : P.Mutex) → P.operation e ≡ lock m → T.inside (P.from e) ρ
        → P.Has (P.held (P.from e)) m → T.listed e P.lock_class
    pub listed_unlock : (e : P.Edge) (ρ : P.Valuation) (m : P.Mutex) → P.operation e ≡ unlock m
        → T.inside (P.from e) ρ → (P.Has (P.held (P.from e)) m → ⊥) → T.listed e P.lock_class
    pub load_target : (e : P.Edge) (ρ : P.Valuation) (a t : P.Temporary) (c : P.Cell) → P.operation e ≡ load a t
        → T.inside (P.from e) ρ → IsAccess P e ρ a c → T.target e (P.abstract_cell c)
    pub load_any_target : (e : P.Edge) (ρ : P.Valuation) (a : P.Temporary) (c : P.Cell) → P.operation e ≡ load_any a
        → T.inside (P.from e) ρ → IsAccess P e ρ a c → T.target e (P.abstract_cell c)
    pub store_target : (e : P.Edge) (ρ : P.Valuation) (a v : P.Temporary) (c : P.Cell) → P.operation e ≡ store a v
        → T.inside (P.from e) ρ → IsAccess P e ρ a c → T.target e (P.abstract_cell c)

  -- the entry states hold the memory at the start of the tasks
  pub record IsEntered (memory : P.Cell → Content P.Value) (temps : P.Task → P.Valuation) : Type 0 where
    pub inside : (i : P.Task) → T.inside (P.entry i) (temps i)
    pub shared : (c : P.Cell) → P.shared (P.abstract_cell c)
        → (v : P.Value) × (memory c ≡ given v) × ((i : P.Task) → T.own (P.entry i) (P.abstract_cell c) v)
    pub local : (i : P.Task) (c : P.Cell) (v : P.Value) → P.owned (P.abstract_cell c) i
        → Reads P (P.abstract_cell c) (memory c) v → T.own (P.entry i) (P.abstract_cell c) v
    pub fresh : (i : P.Task) (x : P.AbstractCell) → T.fresh (P.entry i) x → ⊥
    pub stored : (i : P.Task) (x : P.AbstractCell) → T.stored (P.entry i) x → ⊥
    pub copies : (i : P.Task) (t : P.Temporary) (x : P.AbstractCell) → T.copy (P.entry i) t x → ⊥
