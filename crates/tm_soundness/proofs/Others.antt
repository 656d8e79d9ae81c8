-- What a step of one task leaves to the others.
use Rattle.std.proofs.Common.{◌≡◌, ◌<◌, ◌⊎◌, inl, inr, Option, Some, refl, sym, subst, ◌∙◌}
use Rattle.std.proofs.lemmas.Bool.{cases_lt}
use Rattle.tm_soundness.specs.Tables.{Tables}
use Rattle.tm_soundness.specs.Shape.{Shape, Content, given, Reads, IsApart}
use Rattle.tm_soundness.specs.GraphWorlds.{Status, waiting, ready, blocked, done, Situation, GraphWorld, at, IsFirst, IsAwake}
use Rattle.tm_soundness.specs.Invariant.{Write, Writers, IsHidden, by_rest, by_rank, by_age, IsViewed, IsLocal, IsStopped, stopped_blocked, stopped_done, IsGood}

module _ (P : Shape) where
  pub idle : (st : Status P.Mutex) → (st ≡ ready → ⊥) → (st ≡ waiting) ⊎ IsStopped P st
  idle waiting not = inl refl
  idle ready not = absurd (not refl)
  idle (blocked m) not = inr stopped_blocked
  idle done not = inr stopped_done

  pub awake_goes : (st : Status P.Mutex) → IsAwake P st → IsStopped P st → ⊥
  awake_goes waiting a s = elim s [ ]
  awake_goes ready a s = elim s [ ]
  awake_goes (blocked m) a s = elim a [ ]
  awake_goes done a s = elim a [ ]

  pub ready_goes : (st : Status P.Mutex) → st ≡ ready → IsStopped P st → ⊥
  ready_goes waiting e s = cc
  ready_goes ready e s = elim s [ ]
  ready_goes (blocked m) e s = cc
  ready_goes done e s = cc

  pub situation_path : (z : Situation P) (q : P.Node) (ρ : P.Valuation) (st : Status P.Mutex) → z.node ≡ q → z.temps ≡ ρ → z.status ≡ st → z ≡ at P q ρ st
  situation_path z q ρ st a b c = λ k. record { node = a k; temps = b k; status = c k }

  pub ready_not_waiting : (st : Status P.Mutex) → st ≡ ready → st ≡ waiting → ⊥
  ready_not_waiting st e f = cc

module _ (P : Shape) (T : Tables P) where
  -- the cell c is written by s, which runs at node q
  pub record IsWritten (w : GraphWorld P) (s : P.Task) (q : P.Node) (κ' : P.Cell → Content P.Value) (last' : Writers P) (c : P.Cell) : Type 0 where
    pub value : P.Value
    pub content : κ' c ≡ given value
    pub writer : last' c ≡ Some (record { by = s; under = P.held q })
    pub first : IsFirst P w s
    pub entered : T.weak s (P.held q) (P.abstract_cell c) value

  pub record IsSame (w : GraphWorld P) (last : Writers P) (κ' : P.Cell → Content P.Value) (last' : Writers P) (c : P.Cell) : Type 0 where
    pub content : κ' c ≡ w.content c
    pub writer : last' c ≡ last c

  -- what a step of s does to the memory
  pub record IsChange (w : GraphWorld P) (last : Writers P) (s : P.Task) (q : P.Node) (κ' : P.Cell → Content P.Value) (last' : Writers P) : Type 0 where
    pub shared : (c : P.Cell) → P.shared (P.abstract_cell c) → IsSame w last κ' last' c ⊎ IsWritten w s q κ' last' c
    pub local : (c : P.Cell) (i : P.Task) → P.owned (P.abstract_cell c) i → (i ≡ s → ⊥) → κ' c ≡ w.content c

  pub viewed_same : (i : P.Task) (q : P.Node) (ρ : P.Valuation) (x : P.AbstractCell) (k k' : Content P.Value) (last last' : Option (Write P)) → k' ≡ k → last' ≡ last
      → IsViewed P T i q ρ x k last → IsViewed P T i q ρ x k' last'
  viewed_same i q ρ x k k' last last' e f (inl v) = inl (record { write = v.write; is = f ∙ v.is; other = v.other; apart = v.apart; why = v.why })
  viewed_same i q ρ x k k' last last' e f (inr v) = inr (record { value = v.value; is = e ∙ v.is; own = v.own; copies = v.copies })

  pub local_same : (q : P.Node) (ρ : P.Valuation) (x : P.AbstractCell) (k k' : Content P.Value) → k' ≡ k → IsLocal P T q ρ x k → IsLocal P T q ρ x k'
  local_same q ρ x k k' e l = record {
    reads = λ v r. l.reads v (subst (λ c. Reads P x c v) e r);
    stored = λ s. ((l.stored s).0, e ∙ (l.stored s).1);
    copies = λ t c. e ∙ l.copies t c;
  }

  -- a foreign value that was just written hides from a task that is of lower rank, rests, or has no fresh cell
  hides : (κ : P.Cell → Content P.Value) (last : Writers P) (i s : P.Task) (z : Situation P) (x : P.AbstractCell) (l : P.Held) → IsGood P T κ last i z → (P.rank s < P.rank i → z.status ≡ ready → ⊥) → IsHidden P T i z.node x s l
  hides κ last i s z x l good first = elim (cases_lt (P.rank s) (P.rank i)) [
    | inl less ↦ elim (idle P z.status (first less)) [
      | inl calm ↦ by_age (good.calm_fresh calm x) (λ m _ f. good.calm_found calm m f)
      | inr stop ↦ by_rest (good.stopped stop)
    ]
    | inr le ↦ by_rank le
  ]

  -- the second law: a step of s keeps what holds of task i
  pub others_good : (w : GraphWorld P) (last : Writers P) (s : P.Task) (q : P.Node) (κ' : P.Cell → Content P.Value) (last' : Writers P) → IsChange w last s q κ' last'
      → (i : P.Task) → (i ≡ s → ⊥) → IsApart P (P.held q) (P.held (w.situation i).node) → IsGood P T w.content last i (w.situation i) → IsGood P T κ' last' i (w.situation i)
  others_good w last s q κ' last' change i differ apart good = record {
    inside = good.inside;
    locals = λ c mine. local_same (w.situation i).node (w.situation i).temps (P.abstract_cell c) (w.content c) (κ' c) (change.local c i mine differ) (good.locals c mine);
    views = λ c shared. view c shared (change.shared c shared);
    calm_fresh = good.calm_fresh;
    calm_found = good.calm_found;
    stopped = good.stopped;
  }
    where
      view : (c : P.Cell) → P.shared (P.abstract_cell c) → IsSame w last κ' last' c ⊎ IsWritten w s q κ' last' c → IsViewed P T i (w.situation i).node (w.situation i).temps (P.abstract_cell c) (κ' c) (last' c)
      view c shared (inl same) = viewed_same i (w.situation i).node (w.situation i).temps (P.abstract_cell c) (w.content c) (κ' c) (last c) (last' c) same.content same.writer (good.views c shared)
      view c shared (inr new) = inl (record {
        write = record { by = s; under = P.held q };
        is = new.writer;
        other = λ e. differ (sym e);
        apart = apart;
        why = hides w.content last i s (w.situation i) (P.abstract_cell c) (P.held q) good (new.first i);
      })

  -- a task that becomes ready
  pub ready_good : (κ : P.Cell → Content P.Value) (last : Writers P) (i : P.Task) (q : P.Node) (ρ : P.Valuation) (st : Status P.Mutex) → IsGood P T κ last i (at P q ρ st) → IsGood P T κ last i (at P q ρ ready)
  ready_good κ last i q ρ st good = record {
    inside = good.inside;
    locals = good.locals;
    views = good.views;
    calm_fresh = λ e. absurd (ready_not_waiting P ready refl e);
    calm_found = λ e. absurd (ready_not_waiting P ready refl e);
    stopped = λ s. absurd (ready_goes P ready refl s);
  }
