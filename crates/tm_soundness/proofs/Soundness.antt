-- What holds of every reached world, and that what goes wrong there is listed.
use Rattle.std.proofs.Common.{◌≡◌, ◌≤◌, ◌<◌, ℕ, ◌⊎◌, inl, inr, Option, Some, None, sym, ap, subst, ◌∙◌, arith}
use Rattle.tm_soundness.specs.Tables.{Tables}
use Rattle.tm_soundness.specs.Shape.{Shape, lock, Content, given, open_cell, Usable, IsApart}
use Rattle.tm_soundness.specs.GraphWorlds.{Status, waiting, Situation, GraphWorld, at, IsGraphStart, IsGraphReached, start, after}
use Rattle.tm_soundness.specs.Shaped.{IsShaped}
use Rattle.tm_soundness.specs.Covers.{IsSolution, IsEntered}
use Rattle.tm_soundness.specs.Invariant.{Write, Writers, IsHidden, by_rest, by_rank, by_age, IsForeign, IsViewed, IsGood, IsEntry, IsHandedOver, IsPending, IsUnheld, node_of, IsInvariant}
use Rattle.tm_soundness.specs.Reports.{IsGraphFault, fails_calc, relocks, unlocks_foreign, EdgeAccesses, by_load, by_load_any, by_store, IsGraphRace, IsRaceListed, IsElsewhere, IsParts}
use Rattle.tm_soundness.proofs.Steps.{step_keeps}

module _ (P : Shape) (T : Tables P) where
  abbrev pub unwritten : Writers P
  unwritten c = None

  pub start_good : IsShaped P → (memory : P.Cell → Content P.Value) (temps : P.Task → P.Valuation) → IsEntered P T memory temps → (last : Writers P) (i : P.Task) → IsGood P T memory last i (at P (P.entry i) (temps i) waiting)
  start_good shape memory temps entered last i = record {
    inside = entered.inside i;
    locals = λ c mine. record {
      reads = λ v r. entered.local i c v mine r;
      stored = λ s. absurd (entered.stored i (P.abstract_cell c) s);
      copies = λ t copied. absurd (entered.copies i t (P.abstract_cell c) copied);
    };
    views = λ c shared. inr (record {
      value = (entered.shared c shared).0;
      is = (entered.shared c shared).1;
      own = (entered.shared c shared).2 i;
      copies = λ t copied. absurd (entered.copies i t (P.abstract_cell c) copied);
    });
    calm_fresh = λ _ x. entered.fresh i x;
    calm_found = λ _ m. shape.entry_found i m;
    stopped = λ s. elim s [ ];
  }

  -- the invariant holds at the start
  pub start_holds : IsShaped P → (memory : P.Cell → Content P.Value) (temps : P.Task → P.Valuation) → IsEntered P T memory temps → (w : GraphWorld P) → IsGraphStart P memory temps w → IsInvariant P T w unwritten
  start_holds shape memory temps entered w begun = record {
    good = λ i. subst (λ z. IsGood P T w.content unwritten i z) (sym (begun.situation i)) (subst (λ κ. IsGood P T κ unwritten i (at P (P.entry i) (temps i) waiting)) same (start_good shape memory temps entered unwritten i));
    apart = λ i k differ m a b. none i m a;
    entries = λ c shared wr is. not_some wr is;
    synced = λ c shared wr is. not_some wr is;
    unheld = λ i k differ active less m a b. none k m a;
  }
    where
      same : memory ≡ w.content
      same = λ k c. sym (begun.content c) k

      none : (i : P.Task) (m : P.Mutex) → P.Has (P.held (node_of P w i)) m → ⊥
      none i m a = shape.entry_held i m (subst (λ (z : Situation P). P.Has (P.held z.node) m) (begun.situation i) a)

      not_some : {A : Type 0} (wr : Write P) → (let o : Option (Write P) = None in o) ≡ Some wr → A
      not_some wr e = absurd (none_some wr e)
        where
          none_some : (wr : Write P) → (let o : Option (Write P) = None in o) ≡ Some wr → ⊥
          none_some wr e = cc

  -- in every reached world the invariant holds, for some last writers
  pub reached_holds : IsShaped P → IsSolution P T → (memory : P.Cell → Content P.Value) (temps : P.Task → P.Valuation) → IsEntered P T memory temps → (w : GraphWorld P) → IsGraphReached P memory temps w → (last : Writers P) × IsInvariant P T w last
  reached_holds shape sol memory temps entered w (start here) = (unwritten, start_holds shape memory temps entered w here)
  reached_holds shape sol memory temps entered w (after {w = v} before step) =
      let held : (last : Writers P) × IsInvariant P T v last = reached_holds shape sol memory temps entered v before in
      step_keeps P T shape sol v w held.0 held.1 step

  given_same : (k : Content P.Value) (u v : P.Value) → k ≡ given u → k ≡ given v → u ≡ v
  given_same k u v e f = cc

  open_given : (k : Content P.Value) (v : P.Value) → k ≡ open_cell → k ≡ given v → ⊥
  open_given k v e f = cc

  -- the invariant gives the parts as they are worded
  pub parts_hold : (w : GraphWorld P) (last : Writers P) → IsInvariant P T w last → IsParts P T w last
  parts_hold w last inv = record {
    inside = λ i. (inv.good i).inside;
    held_apart = inv.apart;
    local_within = λ i c mine v r. ((inv.good i).locals c mine).reads v r;
    open_unstored = λ i c mine is s. open_given (w.content c) (((inv.good i).locals c mine).stored s).0 is (((inv.good i).locals c mine).stored s).1;
    shared_known = λ i c shared. shared_known i c shared ((inv.good i).views c shared);
    writes_entered = λ c v wr shared is here. writes_entered c v wr is (inv.entries c shared wr here);
    writes_handed = λ c v wr m shared is here under. writes_handed c v wr m is (inv.synced c shared wr here m under);
    copies_current = λ i c t active usable copied. copies_current i c t active copied usable;
    waiting_calm = λ i waits. ((inv.good i).calm_fresh waits, (inv.good i).calm_found waits);
    found_unheld = λ i k active less. found_unheld i k active less (P.same_task i k);
  }
    where
      elsewhere : (i : P.Task) (x : P.AbstractCell) (o : Option (Write P)) → IsForeign P T i (w.situation i).node x o → IsElsewhere P T i (w.situation i).node x o (P.resting (w.situation i).node)
      elsewhere i x o f = record { write = f.write; is = f.is; other = f.other; apart = f.apart; why = why f.write.by f.write.under f.why }
        where
          why : (j : P.Task) (l : P.Held) → IsHidden P T i (w.situation i).node x j l → (P.rank i ≤ P.rank j) ⊎ (((T.fresh (w.situation i).node x → ⊥) × IsApart P l (P.found (w.situation i).node)) ⊎ P.resting (w.situation i).node)
          why j l (by_rest r) = inr (inr r)
          why j l (by_rank le) = inl le
          why j l (by_age old apart) = inr (inl (old, apart))

      awake_elsewhere : (i : P.Task) (x : P.AbstractCell) (o : Option (Write P)) → (P.resting (w.situation i).node → ⊥) → IsForeign P T i (w.situation i).node x o → IsElsewhere P T i (w.situation i).node x o ⊥
      awake_elsewhere i x o active f = record { write = f.write; is = f.is; other = f.other; apart = f.apart; why = why f.write.by f.write.under f.why }
        where
          why : (j : P.Task) (l : P.Held) → IsHidden P T i (w.situation i).node x j l → (P.rank i ≤ P.rank j) ⊎ (((T.fresh (w.situation i).node x → ⊥) × IsApart P l (P.found (w.situation i).node)) ⊎ ⊥)
          why j l (by_rest r) = absurd (active r)
          why j l (by_rank le) = inl le
          why j l (by_age old apart) = inr (inl (old, apart))

      -- a foreign value is given, since it stands in the store
      shared_known : (i : P.Task) (c : P.Cell) → P.shared (P.abstract_cell c) → IsViewed P T i (w.situation i).node (w.situation i).temps (P.abstract_cell c) (w.content c) (last c)
          → (v : P.Value) × (w.content c ≡ given v) × (T.own (w.situation i).node (P.abstract_cell c) v ⊎ IsElsewhere P T i (w.situation i).node (P.abstract_cell c) (last c) (P.resting (w.situation i).node))
      shared_known i c shared (inl f) = ((inv.entries c shared f.write f.is).value, (inv.entries c shared f.write f.is).is, inr (elsewhere i (P.abstract_cell c) (last c) f))
      shared_known i c shared (inr k) = (k.value, k.is, inl k.own)

      writes_entered : (c : P.Cell) (v : P.Value) (wr : Write P) → w.content c ≡ given v → IsEntry P T wr (P.abstract_cell c) (w.content c) → T.weak wr.by wr.under (P.abstract_cell c) v
      writes_entered c v wr is entry = subst (λ u. T.weak wr.by wr.under (P.abstract_cell c) u) (given_same (w.content c) entry.value v entry.is is) entry.entered

      writes_handed : (c : P.Cell) (v : P.Value) (wr : Write P) (m : P.Mutex) → w.content c ≡ given v → IsHandedOver P T wr m (P.abstract_cell c) (w.content c) ⊎ IsPending P T (node_of P w wr.by) m (P.abstract_cell c)
          → T.sync wr.by m (P.abstract_cell c) v ⊎ (P.Has (P.held (w.situation wr.by).node) m × T.pending (w.situation wr.by).node (P.abstract_cell c) m)
      writes_handed c v wr m is (inl h) = inl (subst (λ u. T.sync wr.by m (P.abstract_cell c) u) (given_same (w.content c) h.value v h.is is) h.entered)
      writes_handed c v wr m is (inr p) = inr (p.0, p.1)

      copies_current : (i : P.Task) (c : P.Cell) (t : P.Temporary) → (P.resting (w.situation i).node → ⊥) → T.copy (w.situation i).node t (P.abstract_cell c) → Usable P i c
          → (w.content c ≡ given (P.value_of (w.situation i).temps t)) ⊎ (P.shared (P.abstract_cell c) × IsElsewhere P T i (w.situation i).node (P.abstract_cell c) (last c) ⊥)
      copies_current i c t active copied (inr mine) = inl (((inv.good i).locals c mine).copies t copied)
      copies_current i c t active copied (inl shared) = view ((inv.good i).views c shared)
        where
          view : IsViewed P T i (w.situation i).node (w.situation i).temps (P.abstract_cell c) (w.content c) (last c) → (w.content c ≡ given (P.value_of (w.situation i).temps t)) ⊎ (P.shared (P.abstract_cell c) × IsElsewhere P T i (w.situation i).node (P.abstract_cell c) (last c) ⊥)
          view (inl f) = inr (shared, awake_elsewhere i (P.abstract_cell c) (last c) active f)
          view (inr k) = inl (k.is ∙ ap given (sym (k.copies t copied)))

      found_unheld : (i k : P.Task) → (P.resting (w.situation i).node → ⊥) → P.rank k < P.rank i → Dec (i ≡ k) → IsApart P (P.held (w.situation k).node) (P.found (w.situation i).node)
      found_unheld i k active less (yes same) = absurd (below_self (P.rank i) (P.rank k) (ap P.rank same) less)
        where
          below_self : (a b : ℕ) → a ≡ b → b < a → ⊥
          below_self a b e l = omega arith
      found_unheld i k active less (no differ) = inv.unheld i k differ active less

  inside_at : (w : GraphWorld P) (last : Writers P) → IsInvariant P T w last → (i : P.Task) (q : P.Node) (ρ : P.Valuation) (st : Status P.Mutex) → w.situation i ≡ at P q ρ st → T.inside q ρ
  inside_at w last inv i q ρ st here = subst (λ (z : Situation P). T.inside z.node z.temps) here (inv.good i).inside

  -- each fault is listed
  pub fault_listed : IsSolution P T → (w : GraphWorld P) (last : Writers P) → IsInvariant P T w last → (e : P.Edge) (k : P.Class) → IsGraphFault P w e k → T.listed e k
  fault_listed sol w last inv e k (fails_calc e' k' ρ st is here fails) = sol.listed_calc e' ρ k' is (inside_at w last inv (P.actor e') (P.from e') ρ st here) fails
  fault_listed sol w last inv e k (relocks e' m ρ st is here held) = sol.listed_lock e' ρ m is (inside_at w last inv (P.actor e') (P.from e') ρ st here) held
  fault_listed sol w last inv e k (unlocks_foreign e' m ρ st is here foreign) = sol.listed_unlock e' ρ m is (inside_at w last inv (P.actor e') (P.from e') ρ st here) foreign

  access_target : IsSolution P T → (e : P.Edge) (ρ : P.Valuation) (c : P.Cell) → T.inside (P.from e) ρ → EdgeAccesses P e ρ c → T.target e (P.abstract_cell c)
  access_target sol e ρ c inside (by_load a t is access) = sol.load_target e ρ a t c is inside access
  access_target sol e ρ c inside (by_load_any a is access) = sol.load_any_target e ρ a c is inside access
  access_target sol e ρ c inside (by_store a v is access) = sol.store_target e ρ a v c is inside access

  access_active : IsShaped P → (e : P.Edge) (ρ : P.Valuation) (c : P.Cell) → EdgeAccesses P e ρ c → P.resting (P.from e) → ⊥
  access_active shape e ρ c (by_load a t is access) r = let l : P.operation e ≡ lock (shape.rests_lock e r).0 = (shape.rests_lock e r).1 in cc
  access_active shape e ρ c (by_load_any a is access) r = let l : P.operation e ≡ lock (shape.rests_lock e r).0 = (shape.rests_lock e r).1 in cc
  access_active shape e ρ c (by_store a v is access) r = let l : P.operation e ≡ lock (shape.rests_lock e r).0 = (shape.rests_lock e r).1 in cc

  -- each race is listed
  pub race_listed : IsShaped P → IsSolution P T → (w : GraphWorld P) (last : Writers P) → IsInvariant P T w last → (e f : P.Edge) → IsGraphRace P w e f → IsRaceListed P T e f
  race_listed shape sol w last inv e f race = record {
    differ = race.differ;
    one_reached = (race.one, one);
    two_reached = (race.two, two);
    common = (P.abstract_cell race.cell, access_target sol e race.one race.cell one race.one_accesses, access_target sol f race.two race.cell two race.two_accesses);
    apart = subst (λ r. IsApart P (P.held (P.from e)) (P.held r)) two_node (subst (λ r. IsApart P (P.held r) (P.held (node_of P w (P.actor f)))) one_node (inv.apart (P.actor e) (P.actor f) race.differ));
    some_store = race.some_store;
    one_lower = λ less. subst (λ r. IsApart P (P.held r) (P.found (P.from f))) one_node
        (subst (λ r. IsUnheld P (P.actor f) r (P.actor e) (node_of P w (P.actor e))) two_node (inv.unheld (P.actor f) (P.actor e) (λ e'. race.differ (sym e'))) (access_active shape f race.two race.cell race.two_accesses) less);
    two_lower = λ less. subst (λ r. IsApart P (P.held r) (P.found (P.from e))) two_node
        (subst (λ r. IsUnheld P (P.actor e) r (P.actor f) (node_of P w (P.actor f))) one_node (inv.unheld (P.actor e) (P.actor f) race.differ) (access_active shape e race.one race.cell race.one_accesses) less);
  }
    where
      one : T.inside (P.from e) race.one
      one = inside_at w last inv (P.actor e) (P.from e) race.one race.one_status race.one_here

      two : T.inside (P.from f) race.two
      two = inside_at w last inv (P.actor f) (P.from f) race.two race.two_status race.two_here

      one_node : node_of P w (P.actor e) ≡ P.from e
      one_node = ap (λ (z : Situation P). z.node) race.one_here

      two_node : node_of P w (P.actor f) ≡ P.from f
      two_node = ap (λ (z : Situation P). z.node) race.two_here
