-- States, stores, what each operation does to them, and solutions, over any lattice of values.
use Rattle.std.proofs.Common.{◌≡◌, ◌≤◌, ◌⊎◌, Option, Some, None, Bool, true, false, IsTrue, cond}
use Rattle.tm_soundness.specs.Tables.{Tables}
use Rattle.tm_soundness.specs.Shape.{Shape, Operation, calculation, load, load_any, store, clear, lock, unlock}
use Rattle.tm_soundness.specs.Shape.{yields, probe, Content, given, Reads, Usable, IsApart}
use Rattle.tm_soundness.specs.GraphWorlds.{IsAccess}

abbrev pub pick : {A B : Type 0} → Dec A → B → B → B
pick (yes a) b c = b
pick (no n) b c = c

-- the temporary x has the address of the operation's access
abbrev pub IsAddress : {T M : Type 0} → Operation T M → T → Type 0
IsAddress (load a t) x = a ≡ x
IsAddress (load_any a) x = a ≡ x
IsAddress (store a v) x = a ≡ x
IsAddress _ x = ⊥

-- values, and what else the rows need to know of a program
pub record Domain (P : Shape) : Type 1 where
  pub Abs : Type 0
  -- the form of a value, which the join needs
  pub Is : Abs → Type 0
  pub In : Abs → P.Value → Type 0
  pub below : Abs → Abs → Type 0
  pub join : Abs → Abs → Abs
  pub is_nothing : Abs → Bool
  pub whole : P.AbstractCell → Abs
  pub one : P.Value → Abs
  pub smashed : P.AbstractCell → Type 0
  pub live : P.Node → P.Temporary → Type 0
  pub same_abstract : (x y : P.AbstractCell) → Dec (x ≡ y)
  pub same_temporary : (t u : P.Temporary) → Dec (t ≡ u)
  pub is_shared : (x : P.AbstractCell) → Dec (P.shared x)
  pub clears_abstract : (e : P.Edge) (x : P.AbstractCell) → Dec ((c : P.Cell) × (P.abstract_cell c ≡ x) × P.clears e c)

pub record IsDomain (P : Shape) (D : Domain P) : Type 0 where
  pub grows : (a b : D.Abs) (v : P.Value) → D.below a b → D.In a v → D.In b v
  pub left : (a b : D.Abs) (v : P.Value) → D.Is a → D.Is b → D.In a v → D.In (D.join a b) v
  pub right : (a b : D.Abs) (v : P.Value) → D.Is a → D.Is b → D.In b v → D.In (D.join a b) v
  pub nothing : (a : D.Abs) (v : P.Value) → D.In a v → D.is_nothing a ≡ false
  pub whole : (c : P.Cell) (v : P.Value) → Reads P (P.abstract_cell c) (P.cleared c) v
      → D.In (D.whole (P.abstract_cell c)) v
  pub one : (v : P.Value) → D.In (D.one v) v
  pub one_cell : (c d : P.Cell) → (D.smashed (P.abstract_cell c) → ⊥) → P.abstract_cell d ≡ P.abstract_cell c → d ≡ c
  pub one_object : (e : P.Edge) (c d : P.Cell) → P.clears e c → P.abstract_cell d ≡ P.abstract_cell c → P.clears e d
  pub put_here : (ρ : P.Valuation) (t : P.Temporary) (v : P.Value) → P.value_of (P.put ρ t v) t ≡ v
  pub put_there : (ρ : P.Valuation) (t u : P.Temporary) (v : P.Value) → (u ≡ t → ⊥)
      → P.value_of (P.put ρ t v) u ≡ P.value_of ρ u

module _ (P : Shape) (D : Domain P) where
  pub record State : Type 0 where
    pub temps : P.Temporary → D.Abs
    pub own : P.AbstractCell → D.Abs
    pub pending : P.AbstractCell → P.Mutex → Bool
    pub fresh : P.AbstractCell → Bool
    pub stored : P.AbstractCell → Bool
    pub copy : P.Temporary → Option P.AbstractCell

  -- its values have the form of values
  pub record IsState (s : State) : Type 0 where
    pub temps : (u : P.Temporary) → D.Is (s.temps u)
    pub own : (x : P.AbstractCell) → D.Is (s.own x)

  -- the order of the states of node q
  pub record IsBelow (q : P.Node) (s t : State) : Type 0 where
    pub temps : (u : P.Temporary) → D.live q u → D.below (s.temps u) (t.temps u)
    pub own : (x : P.AbstractCell) → D.below (s.own x) (t.own x)
    pub pending : (x : P.AbstractCell) (m : P.Mutex) → IsTrue (s.pending x m) → IsTrue (t.pending x m)
    pub fresh : (x : P.AbstractCell) → IsTrue (t.fresh x) → IsTrue (s.fresh x)
    pub stored : (x : P.AbstractCell) → IsTrue (t.stored x) → IsTrue (s.stored x)
    pub copy : (u : P.Temporary) (x : P.AbstractCell) → t.copy u ≡ Some x → s.copy u ≡ Some x

  pub record Store : Type 0 where
    pub weak : P.Task → P.Held → P.AbstractCell → D.Abs
    pub sync : P.Task → P.Mutex → P.AbstractCell → D.Abs

  abbrev pub Table : Type 0
  Table = P.Node → Option State

  -- x is a target of an access by the address temporary a
  pub record IsTarget (e : P.Edge) (a : P.Temporary) (s : State) (x : P.AbstractCell) : Type 0 where
    pub value : P.Value
    pub cell : P.Cell
    pub may : D.In (s.temps a) value
    pub points : P.points value cell
    pub usable : Usable P (P.actor e) cell
    pub fits : P.fits e cell
    pub is : P.abstract_cell cell ≡ x

  pub record IsSingle (e : P.Edge) (a : P.Temporary) (s : State) (x : P.AbstractCell) : Type 0 where
    pub target : IsTarget e a s x
    pub only : (y : P.AbstractCell) → IsTarget e a s y → y ≡ x
    pub whole : D.smashed x → ⊥

  -- what the analyser computes beside the rows themselves
  pub record Finders : Type 0 where
    pub single : P.Edge → P.Temporary → State → Option P.AbstractCell
    pub is_target : (e : P.Edge) (a : P.Temporary) (s : State) (x : P.AbstractCell) → Dec (IsTarget e a s x)
    pub no_target : P.Edge → P.Temporary → State → Bool
    -- the join of the own values of the targets and what is seen of them; what is handed over
    pub loaded : P.Edge → P.Temporary → State → Store → D.Abs
    pub handed : Store → P.Task → P.Mutex → P.AbstractCell → D.Abs
    pub calculated : P.Edge → State → Option State
    pub listed : P.Edge → State → P.Class → Bool

  -- task i at q sees the weak entry of j under l: another task, apart held sets, and j at least as urgent or x not
  -- fresh
  pub record IsSeen (i : P.Task) (q : P.Node) (s : State) (x : P.AbstractCell) (j : P.Task) (l : P.Held) : Type 0 where
    pub other : j ≡ i → ⊥
    pub apart : IsApart P l (P.held q)
    pub why : (P.rank i ≤ P.rank j) ⊎ ((IsTrue (s.fresh x) → ⊥) × IsApart P l (P.found q))

  pub record IsFinding (F : Finders) : Type 0 where
    pub single : (e : P.Edge) (a : P.Temporary) (s : State) (x : P.AbstractCell) → F.single e a s ≡ Some x
        → IsSingle e a s x
    pub no_target : (e : P.Edge) (a : P.Temporary) (s : State) (x : P.AbstractCell) → IsTarget e a s x
        → F.no_target e a s ≡ false
    pub loaded_own : (e : P.Edge) (a : P.Temporary) (s : State) (st : Store) (x : P.AbstractCell) → IsTarget e a s x
        → D.below (s.own x) (F.loaded e a s st)

  -- Visible and Handed lie above the entries that they join
  pub record IsHearing (F : Finders) : Type 0 where
    pub loaded_seen : (e : P.Edge) (a : P.Temporary) (s : State) (st : Store) (x : P.AbstractCell) (j : P.Task)
        (l : P.Held) → IsTarget e a s x → P.shared x → IsSeen (P.actor e) (P.from e) s x j l
        → D.below (st.weak j l x) (F.loaded e a s st)
    pub handed : (st : Store) (i j : P.Task) (m : P.Mutex) (x : P.AbstractCell) → (j ≡ i → ⊥)
        → D.below (st.sync j m x) (F.handed st i m x)

  module _ (F : Finders) where
    abbrev pub set_temp : (P.Temporary → D.Abs) → P.Temporary → D.Abs → P.Temporary → D.Abs
    set_temp f t a u = pick (D.same_temporary u t) a (f u)

    abbrev pub end_copy : (P.Temporary → Option P.AbstractCell) → P.Temporary → Option P.AbstractCell → P.Temporary
        → Option P.AbstractCell
    end_copy f t o u = pick (D.same_temporary u t) o (f u)

    -- the cell of a copy is dropped where the test holds
    abbrev pub drop_copy : {T : P.AbstractCell → Type 0} → ((x : P.AbstractCell) → Dec (T x)) → Option P.AbstractCell
        → Option P.AbstractCell
    drop_copy test None = None
    drop_copy test (Some x) = pick (test x) None (Some x)

    abbrev pub new_copy : State → Option P.AbstractCell → Option P.AbstractCell
    new_copy s None = None
    new_copy s (Some x) = pick (D.is_shared x) (Some x) (cond (s.stored x) (Some x) None)

    abbrev pub after_load : P.Edge → P.Temporary → P.Temporary → State → Store → Option State
    after_load e a t s st = cond (F.no_target e a s) None (cond (D.is_nothing (F.loaded e a s st)) None (Some (record {
      temps = set_temp s.temps t (F.loaded e a s st);
      own = s.own;
      pending = s.pending;
      fresh = s.fresh;
      stored = s.stored;
      copy = end_copy s.copy t (new_copy s (F.single e a s));
    })))

    abbrev pub store_single : P.Edge → P.Temporary → State → P.AbstractCell → State
    store_single e v s x = record {
      temps = s.temps;
      own = λ y. pick (D.same_abstract y x) (s.temps v) (s.own y);
      pending = λ y m. pick (D.same_abstract y x)
          (pick (D.is_shared y) (pick (P.has (P.held (P.from e)) m) true false) (s.pending y m)) (s.pending y m);
      fresh = λ y. pick (D.same_abstract y x) true (s.fresh y);
      stored = λ y. pick (D.same_abstract y x) (pick (D.is_shared y) (s.stored y) true) (s.stored y);
      copy = λ t. drop_copy (λ y. D.same_abstract y x) (s.copy t);
    }

    abbrev pub store_many : P.Edge → P.Temporary → P.Temporary → State → State
    store_many e a v s = record {
      temps = s.temps;
      own = λ y. pick (F.is_target e a s y) (D.join (s.own y) (s.temps v)) (s.own y);
      pending = λ y m. pick (F.is_target e a s y)
          (pick (D.is_shared y) (pick (P.has (P.held (P.from e)) m) true (s.pending y m)) (s.pending y m))
          (s.pending y m);
      fresh = s.fresh;
      stored = s.stored;
      copy = λ t. drop_copy (F.is_target e a s) (s.copy t);
    }

    abbrev pub stored_at : P.Edge → P.Temporary → P.Temporary → State → Option P.AbstractCell → State
    stored_at e a v s (Some x) = store_single e v s x
    stored_at e a v s None = store_many e a v s

    abbrev pub after_store : P.Edge → P.Temporary → P.Temporary → State → Option State
    after_store e a v s = cond (F.no_target e a s) None (Some (stored_at e a v s (F.single e a s)))

    abbrev pub after_clear : P.Edge → State → State
    after_clear e s = record {
      temps = s.temps;
      own = λ x. pick (D.clears_abstract e x) (D.whole x) (s.own x);
      pending = s.pending;
      fresh = s.fresh;
      stored = λ x. pick (D.clears_abstract e x) false (s.stored x);
      copy = λ t. drop_copy (D.clears_abstract e) (s.copy t);
    }

    abbrev pub after_lock : P.Edge → P.Mutex → State → Store → State
    after_lock e m s st = record {
      temps = s.temps;
      own = λ x. pick (D.is_shared x) (D.join (s.own x) (F.handed st (P.actor e) m x)) (s.own x);
      pending = s.pending;
      fresh = λ x. false;
      stored = s.stored;
      copy = λ t. None;
    }

    abbrev pub after_unlock : P.Mutex → State → State
    after_unlock m s = record {
      temps = s.temps;
      own = s.own;
      pending = λ x n. pick (P.same_mutex n m) false (s.pending x n);
      fresh = s.fresh;
      stored = s.stored;
      copy = s.copy;
    }

    abbrev pub after_yield : State → State
    after_yield s = record {
      temps = s.temps;
      own = s.own;
      pending = s.pending;
      fresh = λ x. false;
      stored = s.stored;
      copy = s.copy;
    }

    abbrev pub after_held : P.Temporary → State → State
    after_held t s = record {
      temps = set_temp s.temps t (D.one (P.bit true));
      own = s.own;
      pending = s.pending;
      fresh = s.fresh;
      stored = s.stored;
      copy = end_copy s.copy t None;
    }

    abbrev pub after_free : P.Edge → P.Mutex → P.Temporary → State → Store → State
    after_free e m t s st = record {
      temps = set_temp s.temps t (D.one (P.bit false));
      own = λ x. pick (D.is_shared x) (D.join (s.own x) (F.handed st (P.actor e) m x)) (s.own x);
      pending = s.pending;
      fresh = s.fresh;
      stored = s.stored;
      copy = λ u. None;
    }

    -- which state an edge leads to; the copies of a Lock, Unlock or Probe that lead nowhere are no matter
    abbrev pub after_of : P.Edge → Operation P.Temporary P.Mutex → State → Store → Option State
    after_of e calculation s st = F.calculated e s
    after_of e (load a t) s st = after_load e a t s st
    after_of e (load_any a) s st = F.calculated e s
    after_of e (store a v) s st = after_store e a v s
    after_of e clear s st = Some (after_clear e s)
    after_of e (lock m) s st = pick (P.has (P.held (P.from e)) m) None (Some (after_lock e m s st))
    after_of e (unlock m) s st = pick (P.has (P.held (P.from e)) m) (Some (after_unlock m s)) None
    after_of e yields s st = Some (after_yield s)
    after_of e (probe m t true) s st = Some (after_held t s)
    after_of e (probe m t false) s st = pick (P.has (P.held (P.from e)) m) None (Some (after_free e m t s st))

    -- tables and a store that cover each edge; rounding only raises what stands on the right side
    pub record IsCovered (table : Table) (st : Store) : Type 0 where
      pub values : (q : P.Node) (s : State) → table q ≡ Some s → IsState s
      pub handed_values : (i : P.Task) (m : P.Mutex) (x : P.AbstractCell) → D.Is (F.handed st i m x)
      pub states : (e : P.Edge) (s s' : State) → table (P.from e) ≡ Some s → after_of e (P.operation e) s st ≡ Some s'
          → (t : State) × (table (P.to e) ≡ Some t) × IsBelow (P.to e) s' t

    -- the store lies above all contributions
    pub record IsCollected (table : Table) (st : Store) : Type 0 where
      pub weak : (e : P.Edge) (s : State) (a v : P.Temporary) (x : P.AbstractCell) → table (P.from e) ≡ Some s
          → P.operation e ≡ store a v → IsTarget e a s x → P.shared x
          → D.below (s.temps v) (st.weak (P.actor e) (P.held (P.from e)) x)
      pub sync : (e : P.Edge) (s : State) (m : P.Mutex) (x : P.AbstractCell) → table (P.from e) ≡ Some s
          → P.operation e ≡ unlock m → P.Has (P.held (P.from e)) m → P.shared x → IsTrue (s.pending x m)
          → D.below (s.own x) (st.sync (P.actor e) m x)

    -- what is written goes into W and Y, and what the others have in W and Y is heard
    pub record IsHeard (table : Table) (st : Store) (W : P.Task → P.Held → P.AbstractCell → P.Value
        → Type 0) (Y : P.Task → P.Mutex → P.AbstractCell → P.Value → Type 0) : Type 0 where
      pub weak_in : (e : P.Edge) (s : State) (a v : P.Temporary) (x : P.AbstractCell) (u : P.Value)
          → table (P.from e) ≡ Some s → P.operation e ≡ store a v → IsTarget e a s x → P.shared x → D.In (s.temps v) u
          → W (P.actor e) (P.held (P.from e)) x u
      pub sync_in : (e : P.Edge) (s : State) (m : P.Mutex) (x : P.AbstractCell) (u : P.Value)
          → table (P.from e) ≡ Some s → P.operation e ≡ unlock m → P.Has (P.held (P.from e)) m → P.shared x
          → IsTrue (s.pending x m) → D.In (s.own x) u
          → Y (P.actor e) m x u
      pub weak_out : (e : P.Edge) (a : P.Temporary) (s : State) (x : P.AbstractCell) (j : P.Task)
          (l : P.Held) (u : P.Value) → IsTarget e a s x → P.shared x
          → IsSeen (P.actor e) (P.from e) s x j l → W j l x u → D.In (F.loaded e a s st) u
      pub sync_out : (i j : P.Task) (m : P.Mutex) (x : P.AbstractCell) (u : P.Value) → (j ≡ i → ⊥) → Y j m x u
          → D.In (F.handed st i m x) u

    -- operands are live, and nothing becomes live that is not given
    pub record IsLively : Type 0 where
      pub load_address : (e : P.Edge) (a t : P.Temporary) → P.operation e ≡ load a t → D.live (P.from e) a
      pub load_any_address : (e : P.Edge) (a : P.Temporary) → P.operation e ≡ load_any a → D.live (P.from e) a
      pub store_address : (e : P.Edge) (a v : P.Temporary) → P.operation e ≡ store a v → D.live (P.from e) a
      pub store_value : (e : P.Edge) (a v : P.Temporary) → P.operation e ≡ store a v → D.live (P.from e) v
      pub flow_load : (e : P.Edge) (a t u : P.Temporary) → P.operation e ≡ load a t → D.live (P.to e) u → (u ≡ t → ⊥)
          → D.live (P.from e) u
      pub flow_probe : (e : P.Edge) (m : P.Mutex) (t u : P.Temporary) (b : Bool) → P.operation e ≡ probe m t b
          → D.live (P.to e) u → (u ≡ t → ⊥) → D.live (P.from e) u
      pub flow_store : (e : P.Edge) (a v u : P.Temporary) → P.operation e ≡ store a v → D.live (P.to e) u
          → D.live (P.from e) u
      pub flow_clear : (e : P.Edge) (u : P.Temporary) → P.operation e ≡ clear → D.live (P.to e) u → D.live (P.from e) u
      pub flow_lock : (e : P.Edge) (m : P.Mutex) (u : P.Temporary) → P.operation e ≡ lock m → D.live (P.to e) u
          → D.live (P.from e) u
      pub flow_unlock : (e : P.Edge) (m : P.Mutex) (u : P.Temporary) → P.operation e ≡ unlock m → D.live (P.to e) u
          → D.live (P.from e) u
      pub flow_waits : (e : P.Edge) (u : P.Temporary) → P.operation e ≡ yields → D.live (P.to e) u → D.live (P.from e) u

    -- the temporaries lie in the state
    abbrev pub AreIn : P.Node → State → P.Valuation → Type 0
    AreIn q s ρ = (t : P.Temporary) → D.live q t → D.In (s.temps t) (P.value_of ρ t)

    -- what a calculation gives: a state that holds its result, with the copies that it keeps and refines by
    pub record IsCalculated (e : P.Edge) (s : State) (ρ ρ' : P.Valuation) : Type 0 where
      pub state : State
      pub is : F.calculated e s ≡ Some state
      pub temps : AreIn (P.to e) state ρ'
      pub own : (x : P.AbstractCell) (v : P.Value) → D.In (s.own x) v
          → ((t : P.Temporary) → D.live (P.from e) t → s.copy t ≡ Some x → P.value_of ρ t ≡ v) → D.In (state.own x) v
      pub copies : (t : P.Temporary) (x : P.AbstractCell) → D.live (P.to e) t → state.copy t ≡ Some x
          → D.live (P.from e) t × (s.copy t ≡ Some x) × (P.value_of ρ' t ≡ P.value_of ρ t)
      pub pending : (x : P.AbstractCell) (m : P.Mutex) → IsTrue (s.pending x m) → IsTrue (state.pending x m)
      pub fresh : (x : P.AbstractCell) → IsTrue (state.fresh x) → IsTrue (s.fresh x)
      pub stored : (x : P.AbstractCell) → IsTrue (state.stored x) → IsTrue (s.stored x)

    -- the copies of own local cells have values that these cells may have, and those of one cell agree
    pub record LocalsIn (e : P.Edge) (s : State) (ρ : P.Valuation) : Type 0 where
      pub own : (t : P.Temporary) (x : P.AbstractCell) → D.live (P.from e) t → s.copy t ≡ Some x
          → P.owned x (P.actor e) → D.In (s.own x) (P.value_of ρ t)
      pub agree : (t u : P.Temporary) (x : P.AbstractCell) → D.live (P.from e) t → D.live (P.from e) u
          → s.copy t ≡ Some x → s.copy u ≡ Some x → P.owned x (P.actor e) → P.value_of ρ t ≡ P.value_of ρ u

    pub record IsCalculating : Type 0 where
      pub calcs : (e : P.Edge) (s : State) (ρ ρ' : P.Valuation) → P.operation e ≡ calculation → AreIn (P.from e) s ρ
          → LocalsIn e s ρ → P.does e ρ ρ' → IsCalculated e s ρ ρ'
      pub anys : (e : P.Edge) (s : State) (ρ ρ' : P.Valuation) (a : P.Temporary) (c : P.Cell)
          → P.operation e ≡ load_any a → AreIn (P.from e) s ρ → LocalsIn e s ρ → IsAccess P e ρ a c → P.does e ρ ρ'
          → IsCalculated e s ρ ρ'
      pub fails : (e : P.Edge) (s : State) (ρ : P.Valuation) (k : P.Class) → P.operation e ≡ calculation
          → AreIn (P.from e) s ρ → P.fails e ρ k → IsTrue (F.listed e s k)
      pub relock : (e : P.Edge) (s : State) (m : P.Mutex) → P.operation e ≡ lock m → P.Has (P.held (P.from e)) m
          → IsTrue (F.listed e s P.lock_class)
      pub foreign : (e : P.Edge) (s : State) (m : P.Mutex) → P.operation e ≡ unlock m
          → (P.Has (P.held (P.from e)) m → ⊥) → IsTrue (F.listed e s P.lock_class)

    -- the temporaries lie in the state of the node
    pub record IsInside (table : Table) (q : P.Node) (ρ : P.Valuation) : Type 0 where
      pub state : State
      pub is : table q ≡ Some state
      pub temps : (t : P.Temporary) → D.live q t → D.In (state.temps t) (P.value_of ρ t)

    -- a part of the state of a node
    pub record Has (table : Table) (q : P.Node) (part : State → Type 0) : Type 0 where
      pub state : State
      pub is : table q ≡ Some state
      pub holds : part state

    -- the program with these tables and these entries of a store, in terms of members
    abbrev pub tabled : Table → (P.Task → P.Held → P.AbstractCell → P.Value → Type 0)
        → (P.Task → P.Mutex → P.AbstractCell → P.Value → Type 0) → Tables P
    tabled table W Y = record {
      inside = IsInside table;
      own = λ q x v. Has table q (λ s. D.In (s.own x) v);
      pending = λ q x m. Has table q (λ s. IsTrue (s.pending x m));
      fresh = λ q x. Has table q (λ s. IsTrue (s.fresh x));
      stored = λ q x. Has table q (λ s. IsTrue (s.stored x));
      copy = λ q t x. D.live q t × Has table q (λ s. s.copy t ≡ Some x);
      weak = W;
      sync = Y;
      listed = λ e k. Has table (P.from e) (λ s. IsTrue (F.listed e s k));
      target = λ e x. Has table (P.from e) (λ s. (a : P.Temporary) × IsAddress (P.operation e) a × IsTarget e a s x);
    }

    -- the entry node of a task has a state above the entry state
    pub record IsEntryState (table : Table) (memory : P.Cell → Content P.Value) (i : P.Task) : Type 0 where
      pub state : State
      pub is : table (P.entry i) ≡ Some state
      pub shared : (c : P.Cell) (v : P.Value) → P.shared (P.abstract_cell c) → memory c ≡ given v
          → D.In (state.own (P.abstract_cell c)) v
      pub local : (c : P.Cell) (v : P.Value) → P.owned (P.abstract_cell c) i
          → Reads P (P.abstract_cell c) (memory c) v → D.In (state.own (P.abstract_cell c)) v
      pub fresh : (x : P.AbstractCell) → IsTrue (state.fresh x) → ⊥
      pub stored : (x : P.AbstractCell) → IsTrue (state.stored x) → ⊥
      pub no_temps : (t : P.Temporary) → D.live (P.entry i) t → ⊥
