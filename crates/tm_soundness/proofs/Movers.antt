-- What a step gives for the task that makes it.
use Rattle.std.proofs.Common.{◌≡◌, ◌≤◌, ◌⊎◌, inl, inr, Option, Some, false, refl, sym, ap, subst, ◌∙◌}
use Rattle.tm_soundness.specs.Tables.{Tables}
use Rattle.tm_soundness.specs.Shape.{Shape, lock, yields, probe, Content, given, open_cell, Reads, reads_given, reads_open, Usable, IsApart}
use Rattle.tm_soundness.specs.GraphWorlds.{Status, waiting, ready, GraphWorld, at, IsFree, IsAwake}
use Rattle.tm_soundness.specs.Shaped.{Passes, IsShaped}
use Rattle.tm_soundness.specs.Covers.{Keeps, IsVisible, IsHanded, HasLocals, IsCopied, CoversCalc, CoversLoad, CoversStore, CoversClear, CoversLock, CoversUnlock, CoversYield, CoversHeld, CoversFree}
use Rattle.tm_soundness.specs.Invariant.{Write, Writers, IsHidden, by_rest, by_rank, by_age, IsForeign, IsKnown, IsViewed, IsLocal, IsGood, IsEntry, IsHandedOver, IsPending, IsSynced}
use Rattle.tm_soundness.proofs.Others.{awake_goes, ready_goes, ready_not_waiting}

module _ (P : Shape) (T : Tables P) where
  pub reads_same : (x : P.AbstractCell) (k : Content P.Value) (v u : P.Value) → Reads P x k v → k ≡ given u → u ≡ v
  reads_same x (given w) v u (reads_given {v = v'}) e = cc
  reads_same x open_cell v u (reads_open r) e = cc

  hidden_on : (i : P.Task) (q q' : P.Node) (x : P.AbstractCell) (j : P.Task) (l : P.Held) → (P.resting q → ⊥) → (T.fresh q' x → T.fresh q x) → ((n : P.Mutex) → P.Has (P.found q') n → P.Has (P.found q) n)
      → IsHidden P T i q x j l → IsHidden P T i q' x j l
  hidden_on i q q' x j l active fresh found (by_rest r) = absurd (active r)
  hidden_on i q q' x j l active fresh found (by_rank le) = by_rank le
  hidden_on i q q' x j l active fresh found (by_age old apart) = by_age (λ f. old (fresh f)) (λ n a b. apart n a (found n b))

  -- a foreign value stays foreign where nothing becomes fresh, held or found
  pub foreign_on : (i : P.Task) (q q' : P.Node) (x : P.AbstractCell) (last : Option (Write P)) → (P.resting q → ⊥) → ((n : P.Mutex) → P.Has (P.held q') n → P.Has (P.held q) n) → (T.fresh q' x → T.fresh q x)
      → ((n : P.Mutex) → P.Has (P.found q') n → P.Has (P.found q) n) → IsForeign P T i q x last → IsForeign P T i q' x last
  foreign_on i q q' x last active held fresh found f = record {
    write = f.write;
    is = f.is;
    other = f.other;
    apart = λ n a b. f.apart n a (held n b);
    why = hidden_on i q q' x f.write.by f.write.under active fresh found f.why;
  }

  -- what the copies of own local cells have, lies in the own values of these cells
  pub has_locals : IsShaped P → (κ : P.Cell → Content P.Value) (last : Writers P) (e : P.Edge) (ρ : P.Valuation) (st : Status P.Mutex) → IsGood P T κ last (P.actor e) (at P (P.from e) ρ st) → HasLocals P T e ρ
  has_locals shape κ last e ρ st good = record {
    own = λ t x copied mine.
        (let c : P.Cell = (shape.some_cell x (P.actor e) mine).0 in
        let is : P.abstract_cell c ≡ x = (shape.some_cell x (P.actor e) mine).1 in
        let same : κ c ≡ given (P.value_of ρ t) = is_content c x t is copied mine in
        subst (λ y. T.own (P.from e) y (P.value_of ρ t)) is ((local c x is mine).reads (P.value_of ρ t) (subst (λ k. Reads P (P.abstract_cell c) k (P.value_of ρ t)) (sym same) reads_given)));
    agree = λ t u x copied copied' mine.
        (let c : P.Cell = (shape.some_cell x (P.actor e) mine).0 in
        let is : P.abstract_cell c ≡ x = (shape.some_cell x (P.actor e) mine).1 in
        one_value (P.value_of ρ t) (P.value_of ρ u) (sym (is_content c x t is copied mine) ∙ is_content c x u is copied' mine));
  }
    where
      local : (c : P.Cell) (x : P.AbstractCell) → P.abstract_cell c ≡ x → P.owned x (P.actor e) → IsLocal P T (P.from e) ρ (P.abstract_cell c) (κ c)
      local c x is mine = good.locals c (subst (λ y. P.owned y (P.actor e)) (sym is) mine)

      is_content : (c : P.Cell) (x : P.AbstractCell) (t : P.Temporary) → P.abstract_cell c ≡ x → T.copy (P.from e) t x → P.owned x (P.actor e) → κ c ≡ given (P.value_of ρ t)
      is_content c x t is copied mine = (good.locals c (subst (λ y. P.owned y (P.actor e)) (sym is) mine)).copies t (subst (λ y. T.copy (P.from e) t y) (sym is) copied)

      one_value : (v w : P.Value) → given v ≡ given w → v ≡ w
      one_value v w k = cc

  calc_local : (e : P.Edge) (ρ ρ' : P.Valuation) → CoversCalc P T e ρ ρ' → (x : P.AbstractCell) (k : Content P.Value) → IsLocal P T (P.from e) ρ x k → IsLocal P T (P.to e) ρ' x k
  calc_local e ρ ρ' cover x (given u) local = record {
    reads = λ v r. cover.own x v (local.reads v r) (λ t c. given_same u (P.value_of ρ t) v r (local.copies t c));
    stored = λ s. (u, refl);
    copies = λ t c. local.copies t (cover.copies t x c).0 ∙ ap given (sym (cover.copies t x c).1);
  }
    where
      given_same : (u w v : P.Value) → Reads P x (given u) v → given u ≡ given w → w ≡ v
      given_same u w v r e = reads_same x (given u) v w r e
  calc_local e ρ ρ' cover x open_cell local = record {
    reads = λ v r. cover.own x v (local.reads v r) (λ t c. absurd (open_not (P.value_of ρ t) (local.copies t c)));
    stored = λ s. local.stored (cover.stored x s);
    copies = λ t c. absurd (open_not (P.value_of ρ t) (local.copies t (cover.copies t x c).0));
  }
    where
      open_not : (w : P.Value) → open_cell ≡ given w → ⊥
      open_not w e = cc

  pub calc_good : (κ : P.Cell → Content P.Value) (last : Writers P) (e : P.Edge) (ρ ρ' : P.Valuation) (st : Status P.Mutex) → (P.resting (P.from e) → ⊥) → Passes P (P.from e) (P.to e) → IsAwake P st
      → CoversCalc P T e ρ ρ' → IsGood P T κ last (P.actor e) (at P (P.from e) ρ st) → IsGood P T κ last (P.actor e) (at P (P.to e) ρ' st)
  calc_good κ last e ρ ρ' st active passes awake cover good = record {
    inside = cover.inside;
    locals = λ c mine. calc_local e ρ ρ' cover (P.abstract_cell c) (κ c) (good.locals c mine);
    views = λ c shared. view c (good.views c shared);
    calm_fresh = λ w x f. good.calm_fresh w x (cover.fresh x f);
    calm_found = λ w m f. good.calm_found w m (passes.found_down m f);
    stopped = λ s. absurd (awake_goes P st awake s);
  }
    where
      view : (c : P.Cell) → IsViewed P T (P.actor e) (P.from e) ρ (P.abstract_cell c) (κ c) (last c) → IsViewed P T (P.actor e) (P.to e) ρ' (P.abstract_cell c) (κ c) (last c)
      view c (inl f) = inl (foreign_on (P.actor e) (P.from e) (P.to e) (P.abstract_cell c) (last c) active passes.held_down (cover.fresh (P.abstract_cell c)) passes.found_down f)
      view c (inr k) = inr (record {
        value = k.value;
        is = k.is;
        own = cover.own (P.abstract_cell c) k.value k.own k.copies;
        copies = λ t copied. (cover.copies t (P.abstract_cell c) copied).1 ∙ k.copies t (cover.copies t (P.abstract_cell c) copied).0;
      })

  -- what a load reads lies in the own value, or is seen in the store
  pub load_seen : (κ : P.Cell → Content P.Value) (last : Writers P) (e : P.Edge) (ρ : P.Valuation) (c : P.Cell) (v : P.Value) → (P.resting (P.from e) → ⊥)
      → ((wr : Write P) → P.shared (P.abstract_cell c) → last c ≡ Some wr → IsEntry P T wr (P.abstract_cell c) (κ c))
      → IsGood P T κ last (P.actor e) (at P (P.from e) ρ ready) → Usable P (P.actor e) c → Reads P (P.abstract_cell c) (κ c) v
      → T.own (P.from e) (P.abstract_cell c) v ⊎ (P.shared (P.abstract_cell c) × IsVisible P T (P.actor e) (P.from e) (P.abstract_cell c) v)
  load_seen κ last e ρ c v active entries good (inr mine) reads = inl ((good.locals c mine).reads v reads)
  load_seen κ last e ρ c v active entries good (inl shared) reads = seen (good.views c shared)
    where
      why : (j : P.Task) (l : P.Held) → IsHidden P T (P.actor e) (P.from e) (P.abstract_cell c) j l → (P.rank (P.actor e) ≤ P.rank j) ⊎ ((T.fresh (P.from e) (P.abstract_cell c) → ⊥) × IsApart P l (P.found (P.from e)))
      why j l (by_rest r) = absurd (active r)
      why j l (by_rank le) = inl le
      why j l (by_age old apart) = inr (old, apart)

      seen : IsViewed P T (P.actor e) (P.from e) ρ (P.abstract_cell c) (κ c) (last c) → T.own (P.from e) (P.abstract_cell c) v ⊎ (P.shared (P.abstract_cell c) × IsVisible P T (P.actor e) (P.from e) (P.abstract_cell c) v)
      seen (inr k) = inl (subst (λ u. T.own (P.from e) (P.abstract_cell c) u) (reads_same (P.abstract_cell c) (κ c) v k.value reads k.is) k.own)
      seen (inl f) =
          let entry : IsEntry P T f.write (P.abstract_cell c) (κ c) = entries f.write shared f.is in
          inr (
            shared,
            record {
              writer = f.write.by;
              under = f.write.under;
              other = f.other;
              apart = f.apart;
              why = why f.write.by f.write.under f.why;
              entered = subst (λ u. T.weak f.write.by f.write.under (P.abstract_cell c) u) (reads_same (P.abstract_cell c) (κ c) v entry.value reads entry.is) entry.entered;
            },
          )

  pub load_good : IsShaped P → (κ : P.Cell → Content P.Value) (last : Writers P) (e : P.Edge) (ρ : P.Valuation) (t : P.Temporary) (c : P.Cell) (v : P.Value) → (P.resting (P.from e) → ⊥) → Passes P (P.from e) (P.to e)
      → Reads P (P.abstract_cell c) (κ c) v → CoversLoad P T e ρ t c v → IsGood P T κ last (P.actor e) (at P (P.from e) ρ ready) → IsGood P T κ last (P.actor e) (at P (P.to e) (P.put ρ t v) ready)
  load_good shape κ last e ρ t c v active passes reads cover good = record {
    inside = cover.inside;
    locals = λ d mine. local d mine (good.locals d mine);
    views = λ d shared. view d (good.views d shared);
    calm_fresh = λ w. absurd (ready_not_waiting P ready refl w);
    calm_found = λ w. absurd (ready_not_waiting P ready refl w);
    stopped = λ s. absurd (ready_goes P ready refl s);
  }
    where
      read_here : (d : P.Cell) (u : P.Value) → IsCopied P T e c (P.abstract_cell d) → κ d ≡ given u → u ≡ v
      read_here d u copied is = reads_same (P.abstract_cell c) (κ c) v u reads (ap κ (sym (copied.one d refl)) ∙ is)

      view : (d : P.Cell) → IsViewed P T (P.actor e) (P.from e) ρ (P.abstract_cell d) (κ d) (last d) → IsViewed P T (P.actor e) (P.to e) (P.put ρ t v) (P.abstract_cell d) (κ d) (last d)
      view d (inl f) = inl (foreign_on (P.actor e) (P.from e) (P.to e) (P.abstract_cell d) (last d) active passes.held_down (cover.keeps.fresh (P.abstract_cell d)) passes.found_down f)
      view d (inr k) = inr (record {
        value = k.value;
        is = k.is;
        own = cover.keeps.own (P.abstract_cell d) k.value k.own;
        copies = λ u copied. elim (cover.copies u (P.abstract_cell d) copied) [
          | inl old ↦ old.1 ∙ k.copies u old.0
          | inr new ↦ new.0 ∙ sym (read_here d k.value new.1 k.is)
        ];
      })

      local : (d : P.Cell) → P.owned (P.abstract_cell d) (P.actor e) → IsLocal P T (P.from e) ρ (P.abstract_cell d) (κ d) → IsLocal P T (P.to e) (P.put ρ t v) (P.abstract_cell d) (κ d)
      local d mine l = record {
        reads = λ u r. cover.keeps.own (P.abstract_cell d) u (l.reads u r);
        stored = λ s. l.stored (cover.keeps.stored (P.abstract_cell d) s);
        copies = λ u copied. elim (cover.copies u (P.abstract_cell d) copied) [
          | inl old ↦ l.copies u old.0 ∙ ap given (sym old.1)
          | inr new ↦ elim new.1.known [
            | inl shared ↦ absurd (shape.not_both (P.abstract_cell d) (P.actor e) shared mine)
            | inr stored ↦ (l.stored stored).1 ∙ ap given (read_here d (l.stored stored).0 new.1 (l.stored stored).1 ∙ sym new.0)
          ]
        ];
      }

  -- the writers after a store to c
  pub wrote : Writers P → P.Cell → Write P → Writers P
  wrote last c wr d = elim (P.same_cell d c) [ yes e ↦ Some wr | no n ↦ last d ]

  pub wrote_here : (last : Writers P) (c : P.Cell) (wr : Write P) (d : P.Cell) → d ≡ c → wrote last c wr d ≡ Some wr
  unfolding wrote
  wrote_here last c wr d is = by_case (P.same_cell d c)
    where
      by_case : (s : Dec (d ≡ c)) → elim s as (λ _. Option (Write P)) [ yes e ↦ Some wr | no n ↦ last d ] ≡ Some wr
      by_case (yes e) = refl
      by_case (no n) = absurd (n is)

  pub wrote_there : (last : Writers P) (c : P.Cell) (wr : Write P) (d : P.Cell) → (d ≡ c → ⊥) → wrote last c wr d ≡ last d
  unfolding wrote
  wrote_there last c wr d not = by_case (P.same_cell d c)
    where
      by_case : (s : Dec (d ≡ c)) → elim s as (λ _. Option (Write P)) [ yes e ↦ Some wr | no n ↦ last d ] ≡ last d
      by_case (yes e) = absurd (not e)
      by_case (no n) = refl

  pub store_good : (κ κ' : P.Cell → Content P.Value) (last last' : Writers P) (e : P.Edge) (ρ : P.Valuation) (w : P.Value) (c : P.Cell) → (P.resting (P.from e) → ⊥) → Passes P (P.from e) (P.to e)
      → κ' c ≡ given w → ((d : P.Cell) → (d ≡ c → ⊥) → κ' d ≡ κ d) → ((d : P.Cell) → (d ≡ c → ⊥) → last' d ≡ last d)
      → CoversStore P T e ρ w c → IsGood P T κ last (P.actor e) (at P (P.from e) ρ ready) → IsGood P T κ' last' (P.actor e) (at P (P.to e) ρ ready)
  store_good κ κ' last last' e ρ w c active passes here there last_there cover good = record {
    inside = cover.inside;
    locals = λ d mine. local d (good.locals d mine) (P.same_cell d c);
    views = λ d shared. view d (good.views d shared) (P.same_cell d c);
    calm_fresh = λ s. absurd (ready_not_waiting P ready refl s);
    calm_found = λ s. absurd (ready_not_waiting P ready refl s);
    stopped = λ s. absurd (ready_goes P ready refl s);
  }
    where
      view : (d : P.Cell) → IsViewed P T (P.actor e) (P.from e) ρ (P.abstract_cell d) (κ d) (last d) → Dec (d ≡ c) → IsViewed P T (P.actor e) (P.to e) ρ (P.abstract_cell d) (κ' d) (last' d)
      view d v (yes is) = inr (record {
        value = w;
        is = ap κ' is ∙ here;
        own = subst (λ x. T.own (P.to e) x w) (ap P.abstract_cell (sym is)) cover.own;
        copies = λ t copied. absurd ((cover.copies t (P.abstract_cell d) copied).1 (ap P.abstract_cell is));
      })
      view d (inl f) (no not) =
          let g : IsForeign P T (P.actor e) (P.to e) (P.abstract_cell d) (last d) = foreign_on (P.actor e) (P.from e) (P.to e) (P.abstract_cell d) (last d) active passes.held_down (cover.fresh_other d not) passes.found_down f in
          inl (record { write = g.write; is = last_there d not ∙ g.is; other = g.other; apart = g.apart; why = g.why })
      view d (inr k) (no not) = inr (record {
        value = k.value;
        is = there d not ∙ k.is;
        own = cover.own_other d k.value not k.own;
        copies = λ t copied. k.copies t (cover.copies t (P.abstract_cell d) copied).0;
      })

      local : (d : P.Cell) → IsLocal P T (P.from e) ρ (P.abstract_cell d) (κ d) → Dec (d ≡ c) → IsLocal P T (P.to e) ρ (P.abstract_cell d) (κ' d)
      local d l (yes is) = record {
        reads = λ v r. subst (λ u. T.own (P.to e) (P.abstract_cell d) u) (reads_same (P.abstract_cell d) (κ' d) v w r (ap κ' is ∙ here)) (subst (λ x. T.own (P.to e) x w) (ap P.abstract_cell (sym is)) cover.own);
        stored = λ s. (w, ap κ' is ∙ here);
        copies = λ t copied. absurd ((cover.copies t (P.abstract_cell d) copied).1 (ap P.abstract_cell is));
      }
      local d l (no not) = record {
        reads = λ v r. cover.own_other d v not (l.reads v (subst (λ k. Reads P (P.abstract_cell d) k v) (there d not) r));
        stored = λ s. ((l.stored (cover.stored_other d not s)).0, there d not ∙ (l.stored (cover.stored_other d not s)).1);
        copies = λ t copied. there d not ∙ l.copies t (cover.copies t (P.abstract_cell d) copied).0;
      }

  pub clear_good : IsShaped P → (κ κ' : P.Cell → Content P.Value) (last : Writers P) (e : P.Edge) (ρ : P.Valuation) → (P.resting (P.from e) → ⊥) → Passes P (P.from e) (P.to e)
      → ((c : P.Cell) → P.clears e c → κ' c ≡ P.cleared c) → ((c : P.Cell) → (P.clears e c → ⊥) → κ' c ≡ κ c)
      → CoversClear P T e ρ → IsGood P T κ last (P.actor e) (at P (P.from e) ρ ready) → IsGood P T κ' last (P.actor e) (at P (P.to e) ρ ready)
  clear_good shape κ κ' last e ρ active passes here there cover good = record {
    inside = cover.inside;
    locals = λ d mine. local d (good.locals d mine) (shape.may_clear e d);
    views = λ d shared. view d (good.views d shared) (λ k. shape.not_both (P.abstract_cell d) (P.actor e) shared (shape.clears_own e d k));
    calm_fresh = λ s. absurd (ready_not_waiting P ready refl s);
    calm_found = λ s. absurd (ready_not_waiting P ready refl s);
    stopped = λ s. absurd (ready_goes P ready refl s);
  }
    where
      view : (d : P.Cell) → IsViewed P T (P.actor e) (P.from e) ρ (P.abstract_cell d) (κ d) (last d) → (P.clears e d → ⊥) → IsViewed P T (P.actor e) (P.to e) ρ (P.abstract_cell d) (κ' d) (last d)
      view d (inl f) not = inl (foreign_on (P.actor e) (P.from e) (P.to e) (P.abstract_cell d) (last d) active passes.held_down (cover.fresh (P.abstract_cell d)) passes.found_down f)
      view d (inr k) not = inr (record {
        value = k.value;
        is = there d not ∙ k.is;
        own = cover.own_other d k.value not k.own;
        copies = λ t copied. k.copies t (cover.copies d t copied).0;
      })

      local : (d : P.Cell) → IsLocal P T (P.from e) ρ (P.abstract_cell d) (κ d) → Dec (P.clears e d) → IsLocal P T (P.to e) ρ (P.abstract_cell d) (κ' d)
      local d l (yes is) = record {
        reads = λ v r. cover.own d v is (subst (λ k. Reads P (P.abstract_cell d) k v) (here d is) r);
        stored = λ s. absurd ((cover.stored d s).1 is);
        copies = λ t copied. absurd ((cover.copies d t copied).1 is);
      }
      local d l (no not) = record {
        reads = λ v r. cover.own_other d v not (l.reads v (subst (λ k. Reads P (P.abstract_cell d) k v) (there d not) r));
        stored = λ s. ((l.stored (cover.stored d s).0).0, there d not ∙ (l.stored (cover.stored d s).0).1);
        copies = λ t copied. there d not ∙ l.copies t (cover.copies d t copied).0;
      }

  -- where the copies that are left have the values that they had
  keep_local : (q q' : P.Node) (ρ ρ' : P.Valuation) (x : P.AbstractCell) (k : Content P.Value) → Keeps P T q q' → ((t : P.Temporary) → T.copy q' t x → T.copy q t x × (P.value_of ρ' t ≡ P.value_of ρ t))
      → IsLocal P T q ρ x k → IsLocal P T q' ρ' x k
  keep_local q q' ρ ρ' x k keeps copies l = record {
    reads = λ v r. keeps.own x v (l.reads v r);
    stored = λ s. l.stored (keeps.stored x s);
    copies = λ t copied. l.copies t (copies t copied).0 ∙ ap given (sym (copies t copied).1);
  }

  keep_known : (q q' : P.Node) (ρ ρ' : P.Valuation) (x : P.AbstractCell) (k : Content P.Value) → ((v : P.Value) → T.own q x v → T.own q' x v) → ((t : P.Temporary) → T.copy q' t x → T.copy q t x × (P.value_of ρ' t ≡ P.value_of ρ t))
      → IsKnown P T q ρ x k → IsKnown P T q' ρ' x k
  keep_known q q' ρ ρ' x k own copies known = record {
    value = known.value;
    is = known.is;
    own = own known.value known.own;
    copies = λ t copied. (copies t copied).1 ∙ known.copies t (copies t copied).0;
  }

  -- a foreign value that was written under m comes from the sync entries where m is free
  handed_known : (κ : P.Cell → Content P.Value) (i : P.Task) (q q' : P.Node) (ρ' : P.Valuation) (m : P.Mutex) (c : P.Cell) (wr : Write P) (r : P.Node)
      → (P.Has (P.held r) m → ⊥) → (wr.by ≡ i → ⊥) → ((v : P.Value) → IsHanded P T i m (P.abstract_cell c) v → T.own q' (P.abstract_cell c) v) → ((t : P.Temporary) → T.copy q' t (P.abstract_cell c) → ⊥)
      → IsHandedOver P T wr m (P.abstract_cell c) (κ c) ⊎ IsPending P T r m (P.abstract_cell c) → IsKnown P T q' ρ' (P.abstract_cell c) (κ c)
  handed_known κ i q q' ρ' m c wr r free other handed copies (inl h) = record {
    value = h.value;
    is = h.is;
    own = handed h.value (record { writer = wr.by; other = other; entered = h.entered });
    copies = λ t copied. absurd (copies t copied);
  }
  handed_known κ i q q' ρ' m c wr r free other handed copies (inr p) = absurd (free p.0)

  -- mutex m is among those of l, or l is apart from all that m is added to
  apart_more : (l h h' : P.Held) (m : P.Mutex) → (P.Has l m → ⊥) → ((n : P.Mutex) → P.Has h' n → P.Has h n ⊎ (n ≡ m)) → IsApart P l h → IsApart P l h'
  apart_more l h h' m not more apart n a b = elim (more n b) [
    | inl old ↦ apart n a old
    | inr new ↦ not (subst (λ k. P.Has l k) new a)
  ]

  pub lock_good : IsShaped P → (w : GraphWorld P) (last : Writers P) (e : P.Edge) (ρ : P.Valuation) (m : P.Mutex) → P.operation e ≡ lock m → (P.Has (P.held (P.from e)) m → ⊥) → IsFree P w m
      → ((c : P.Cell) → P.shared (P.abstract_cell c) → (wr : Write P) → last c ≡ Some wr → IsSynced P T wr (w.situation wr.by).node (P.abstract_cell c) (w.content c))
      → CoversLock P T e ρ m → IsGood P T w.content last (P.actor e) (at P (P.from e) ρ ready) → IsGood P T w.content last (P.actor e) (at P (P.to e) ρ ready)
  lock_good shape w last e ρ m is not free synced cover good = record {
    inside = cover.inside;
    locals = λ c mine. keep_local (P.from e) (P.to e) ρ ρ (P.abstract_cell c) (w.content c) cover.keeps (λ t copied. absurd (cover.copies t (P.abstract_cell c) copied)) (good.locals c mine);
    views = λ c shared. view c shared (good.views c shared);
    calm_fresh = λ s. absurd (ready_not_waiting P ready refl s);
    calm_found = λ s. absurd (ready_not_waiting P ready refl s);
    stopped = λ s. absurd (ready_goes P ready refl s);
  }
    where
      foreign : (c : P.Cell) → P.shared (P.abstract_cell c) → (f : IsForeign P T (P.actor e) (P.from e) (P.abstract_cell c) (last c)) → Dec (P.Has f.write.under m)
          → IsViewed P T (P.actor e) (P.to e) ρ (P.abstract_cell c) (w.content c) (last c)
      foreign c shared f (yes under) = inr (handed_known w.content (P.actor e) (P.from e) (P.to e) ρ m c f.write (w.situation f.write.by).node (free f.write.by) f.other (λ v h. cover.handed (P.abstract_cell c) v shared h) (λ t. cover.copies t (P.abstract_cell c))
          (synced c shared f.write f.is m under))
      foreign c shared f (no without) = inl (record {
        write = f.write;
        is = f.is;
        other = f.other;
        apart = apart_more f.write.under (P.held (P.from e)) (P.held (P.to e)) m without (λ n. shape.lock_held e m n is not) f.apart;
        why = by_age (cover.fresh (P.abstract_cell c)) (λ n a b. shape.lock_found e m n is not b);
      })

      view : (c : P.Cell) → P.shared (P.abstract_cell c) → IsViewed P T (P.actor e) (P.from e) ρ (P.abstract_cell c) (w.content c) (last c) → IsViewed P T (P.actor e) (P.to e) ρ (P.abstract_cell c) (w.content c) (last c)
      view c shared (inl f) = foreign c shared f (P.has f.write.under m)
      view c shared (inr k) = inr (keep_known (P.from e) (P.to e) ρ ρ (P.abstract_cell c) (w.content c) (cover.keeps.own (P.abstract_cell c)) (λ t copied. absurd (cover.copies t (P.abstract_cell c) copied)) k)

  pub unlock_good : (κ : P.Cell → Content P.Value) (last : Writers P) (e : P.Edge) (ρ : P.Valuation) (m : P.Mutex) → (P.resting (P.from e) → ⊥)
      → ((n : P.Mutex) → P.Has (P.held (P.to e)) n → P.Has (P.held (P.from e)) n) → ((n : P.Mutex) → P.Has (P.found (P.to e)) n → P.Has (P.found (P.from e)) n)
      → CoversUnlock P T e ρ m → IsGood P T κ last (P.actor e) (at P (P.from e) ρ ready) → IsGood P T κ last (P.actor e) (at P (P.to e) ρ ready)
  unlock_good κ last e ρ m active held found cover good = record {
    inside = cover.inside;
    locals = λ c mine. let l : IsLocal P T (P.from e) ρ (P.abstract_cell c) (κ c) = good.locals c mine in record {
      reads = λ v r. cover.own (P.abstract_cell c) v (l.reads v r);
      stored = λ s. l.stored (cover.stored (P.abstract_cell c) s);
      copies = λ t copied. l.copies t (cover.copies t (P.abstract_cell c) copied);
    };
    views = λ c shared. view c (good.views c shared);
    calm_fresh = λ s. absurd (ready_not_waiting P ready refl s);
    calm_found = λ s. absurd (ready_not_waiting P ready refl s);
    stopped = λ s. absurd (ready_goes P ready refl s);
  }
    where
      view : (c : P.Cell) → IsViewed P T (P.actor e) (P.from e) ρ (P.abstract_cell c) (κ c) (last c) → IsViewed P T (P.actor e) (P.to e) ρ (P.abstract_cell c) (κ c) (last c)
      view c (inl f) = inl (foreign_on (P.actor e) (P.from e) (P.to e) (P.abstract_cell c) (last c) active held (cover.fresh (P.abstract_cell c)) found f)
      view c (inr k) = inr (keep_known (P.from e) (P.to e) ρ ρ (P.abstract_cell c) (κ c) (cover.own (P.abstract_cell c)) (λ t copied. (cover.copies t (P.abstract_cell c) copied, refl)) k)

  pub yield_good : IsShaped P → (κ : P.Cell → Content P.Value) (last : Writers P) (e : P.Edge) (ρ : P.Valuation) → P.operation e ≡ yields → (P.resting (P.from e) → ⊥)
      → CoversYield P T e ρ → IsGood P T κ last (P.actor e) (at P (P.from e) ρ ready) → IsGood P T κ last (P.actor e) (at P (P.to e) ρ waiting)
  yield_good shape κ last e ρ is active cover good = record {
    inside = cover.inside;
    locals = λ c mine. keep_local (P.from e) (P.to e) ρ ρ (P.abstract_cell c) (κ c) cover.keeps (λ t copied. (cover.copies t (P.abstract_cell c) copied, refl)) (good.locals c mine);
    views = λ c shared. view c (good.views c shared);
    calm_fresh = λ s. cover.fresh;
    calm_found = λ s n. shape.yield_found e n is;
    stopped = λ s. elim s [ ];
  }
    where
      view : (c : P.Cell) → IsViewed P T (P.actor e) (P.from e) ρ (P.abstract_cell c) (κ c) (last c) → IsViewed P T (P.actor e) (P.to e) ρ (P.abstract_cell c) (κ c) (last c)
      view c (inl f) = inl (foreign_on (P.actor e) (P.from e) (P.to e) (P.abstract_cell c) (last c) active (λ n. shape.yield_held e n is) (λ a. absurd (cover.fresh (P.abstract_cell c) a)) (λ n a. absurd (shape.yield_found e n is a)) f)
      view c (inr k) = inr (keep_known (P.from e) (P.to e) ρ ρ (P.abstract_cell c) (κ c) (cover.keeps.own (P.abstract_cell c)) (λ t copied. (cover.copies t (P.abstract_cell c) copied, refl)) k)

  pub held_good : (κ : P.Cell → Content P.Value) (last : Writers P) (e : P.Edge) (ρ ρ' : P.Valuation) → (P.resting (P.from e) → ⊥) → Passes P (P.from e) (P.to e)
      → CoversHeld P T e ρ ρ' → IsGood P T κ last (P.actor e) (at P (P.from e) ρ ready) → IsGood P T κ last (P.actor e) (at P (P.to e) ρ' ready)
  held_good κ last e ρ ρ' active passes cover good = record {
    inside = cover.inside;
    locals = λ c mine. keep_local (P.from e) (P.to e) ρ ρ' (P.abstract_cell c) (κ c) cover.keeps (λ t. cover.copies t (P.abstract_cell c)) (good.locals c mine);
    views = λ c shared. view c (good.views c shared);
    calm_fresh = λ s. absurd (ready_not_waiting P ready refl s);
    calm_found = λ s. absurd (ready_not_waiting P ready refl s);
    stopped = λ s. absurd (ready_goes P ready refl s);
  }
    where
      view : (c : P.Cell) → IsViewed P T (P.actor e) (P.from e) ρ (P.abstract_cell c) (κ c) (last c) → IsViewed P T (P.actor e) (P.to e) ρ' (P.abstract_cell c) (κ c) (last c)
      view c (inl f) = inl (foreign_on (P.actor e) (P.from e) (P.to e) (P.abstract_cell c) (last c) active passes.held_down (cover.keeps.fresh (P.abstract_cell c)) passes.found_down f)
      view c (inr k) = inr (keep_known (P.from e) (P.to e) ρ ρ' (P.abstract_cell c) (κ c) (cover.keeps.own (P.abstract_cell c)) (λ t. cover.copies t (P.abstract_cell c)) k)

  pub free_good : IsShaped P → (w : GraphWorld P) (last : Writers P) (e : P.Edge) (ρ ρ' : P.Valuation) (m : P.Mutex) (t : P.Temporary) → P.operation e ≡ probe m t false → (P.resting (P.from e) → ⊥) → (P.Has (P.held (P.from e)) m → ⊥) → IsFree P w m
      → ((c : P.Cell) → P.shared (P.abstract_cell c) → (wr : Write P) → last c ≡ Some wr → IsSynced P T wr (w.situation wr.by).node (P.abstract_cell c) (w.content c))
      → CoversFree P T e ρ' m → IsGood P T w.content last (P.actor e) (at P (P.from e) ρ ready) → IsGood P T w.content last (P.actor e) (at P (P.to e) ρ' ready)
  free_good shape w last e ρ ρ' m t is active not free synced cover good = record {
    inside = cover.inside;
    locals = λ c mine. keep_local (P.from e) (P.to e) ρ ρ' (P.abstract_cell c) (w.content c) cover.keeps (λ u copied. absurd (cover.copies u (P.abstract_cell c) copied)) (good.locals c mine);
    views = λ c shared. view c shared (good.views c shared);
    calm_fresh = λ s. absurd (ready_not_waiting P ready refl s);
    calm_found = λ s. absurd (ready_not_waiting P ready refl s);
    stopped = λ s. absurd (ready_goes P ready refl s);
  }
    where
      why : (c : P.Cell) (j : P.Task) (l : P.Held) → (P.Has l m → ⊥) → IsHidden P T (P.actor e) (P.from e) (P.abstract_cell c) j l → IsHidden P T (P.actor e) (P.to e) (P.abstract_cell c) j l
      why c j l without (by_rest r) = absurd (active r)
      why c j l without (by_rank le) = by_rank le
      why c j l without (by_age old apart) = by_age (λ f. old (cover.keeps.fresh (P.abstract_cell c) f)) (apart_more l (P.found (P.from e)) (P.found (P.to e)) m without (λ n. shape.free_found e m t n is not) apart)

      foreign : (c : P.Cell) → P.shared (P.abstract_cell c) → (f : IsForeign P T (P.actor e) (P.from e) (P.abstract_cell c) (last c)) → Dec (P.Has f.write.under m)
          → IsViewed P T (P.actor e) (P.to e) ρ' (P.abstract_cell c) (w.content c) (last c)
      foreign c shared f (yes under) = inr (handed_known w.content (P.actor e) (P.from e) (P.to e) ρ' m c f.write (w.situation f.write.by).node (free f.write.by) f.other (λ v h. cover.handed (P.abstract_cell c) v shared h) (λ u. cover.copies u (P.abstract_cell c))
          (synced c shared f.write f.is m under))
      foreign c shared f (no without) = inl (record {
        write = f.write;
        is = f.is;
        other = f.other;
        apart = λ n a b. f.apart n a (shape.free_held e m t n is not b);
        why = why c f.write.by f.write.under without f.why;
      })

      view : (c : P.Cell) → P.shared (P.abstract_cell c) → IsViewed P T (P.actor e) (P.from e) ρ (P.abstract_cell c) (w.content c) (last c) → IsViewed P T (P.actor e) (P.to e) ρ' (P.abstract_cell c) (w.content c) (last c)
      view c shared (inl f) = foreign c shared f (P.has f.write.under m)
      view c shared (inr k) = inr (keep_known (P.from e) (P.to e) ρ ρ' (P.abstract_cell c) (w.content c) (cover.keeps.own (P.abstract_cell c)) (λ u copied. absurd (cover.copies u (P.abstract_cell c) copied)) k)
