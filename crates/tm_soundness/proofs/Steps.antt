-- Every step keeps the invariant.
use Rattle.std.proofs.Common.{◌≡◌, ◌⊎◌, inl, inr, Option, Some, Bool, true, false, refl, sym, ap, subst, ◌∙◌}
use Rattle.tm_soundness.specs.Tables.{Tables}
use Rattle.tm_soundness.specs.Shape.{Shape, Operation, calculation, load, load_any, store, clear, lock, unlock, yields, probe, given, Usable, IsApart}
use Rattle.tm_soundness.specs.GraphWorlds.{Status, waiting, ready, blocked, done, Situation, GraphWorld, at, IsFree, awake_ready, IsAccess, IsSameMemory, IsReleased, Runs, Moves, GraphStep, wake, finish, calculate, loads, loads_any, stores, clearing, locks, blocks, unlocks, waits, finds_held, finds_free}
use Rattle.tm_soundness.specs.Shaped.{Passes, IsShaped}
use Rattle.tm_soundness.specs.Covers.{CoversCalc, CoversLoad, CoversStore, CoversClear, CoversLock, CoversUnlock, CoversYield, CoversHeld, CoversFree, IsSolution}
use Rattle.tm_soundness.specs.Invariant.{Write, Writers, IsViewed, IsGood, IsHandedOver, IsPending, IsSynced, IsUnheld, node_of, IsInvariant}
use Rattle.tm_soundness.proofs.Others.{idle, ready_goes, ready_not_waiting, IsWritten, IsSame, IsChange}
use Rattle.tm_soundness.proofs.Movers.{has_locals, calc_good, load_seen, load_good, wrote, wrote_here, wrote_there, store_good, clear_good, lock_good, unlock_good, yield_good, held_good, free_good}
use Rattle.tm_soundness.proofs.Cross.{IsLeft, moved}

module _ (P : Shape) (T : Tables P) where
  left_of : (w w' : GraphWorld P) (s : P.Task) (z : Situation P) → Moves P w w' s z → (i : P.Task) → (i ≡ s → ⊥) → IsLeft P T (w.situation i) (w'.situation i)
  left_of w w' s z moves i differ =
      let same : w'.situation i ≡ w.situation i = moves.others i differ in
      record { node = ap (λ (y : Situation P). y.node) same; temps = ap (λ (y : Situation P). y.temps) same; status = inl (ap (λ (y : Situation P). y.status) same) }

  released_left : (m : P.Mutex) (z z' : Situation P) → IsReleased P m z z' → IsLeft P T z z'
  released_left m z z' r = record { node = r.node; temps = r.temps; status = elim r.status [ inl same ↦ inl same | inr up ↦ inr up.1 ] }

  quiet : (w w' : GraphWorld P) (last : Writers P) (s : P.Task) (q : P.Node) → IsSameMemory P w w' → IsChange P T w last s q w'.content last
  quiet w w' last s q same = record { shared = λ c _. inl (record { content = same c; writer = refl }); local = λ c _ _ _. same c }

  same_fun : (w w' : GraphWorld P) → IsSameMemory P w w' → w'.content ≡ w.content
  same_fun w w' same = λ k c. same c k

  module _ (shape : IsShaped P) (w : GraphWorld P) (last : Writers P) (inv : IsInvariant P T w last) where
    good_at : (s : P.Task) (z : Situation P) → w.situation s ≡ z → IsGood P T w.content last s z
    good_at s z here = subst (λ y. IsGood P T w.content last s y) here (inv.good s)

    apart_at : (s : P.Task) (q : P.Node) → node_of P w s ≡ q → (k : P.Task) → (k ≡ s → ⊥) → IsApart P (P.held q) (P.held (node_of P w k))
    apart_at s q here k differ = subst (λ r. IsApart P (P.held r) (P.held (node_of P w k))) here (inv.apart s k (λ e. differ (sym e)))

    unheld_at : (s : P.Task) (q : P.Node) → node_of P w s ≡ q → (k : P.Task) → (k ≡ s → ⊥) → IsUnheld P s q k (node_of P w k)
    unheld_at s q here k differ = subst (λ r. IsUnheld P s r k (node_of P w k)) here (inv.unheld s k (λ e. differ (sym e)))

    unheld_by_at : (s : P.Task) (q : P.Node) → node_of P w s ≡ q → (i : P.Task) → (i ≡ s → ⊥) → IsUnheld P i (node_of P w i) s q
    unheld_by_at s q here i differ = subst (λ r. IsUnheld P i (node_of P w i) s r) here (inv.unheld i s differ)

    synced_at : (s : P.Task) (q : P.Node) → node_of P w s ≡ q → (c : P.Cell) → P.shared (P.abstract_cell c) → (wr : Write P) → last c ≡ Some wr → wr.by ≡ s → IsSynced P T wr q (P.abstract_cell c) (w.content c)
    synced_at s q here c shared wr is by = subst (λ r. IsSynced P T wr r (P.abstract_cell c) (w.content c)) (ap (node_of P w) by ∙ here) (inv.synced c shared wr is)

    -- where the memory stays: pending mutexes stay pending
    synced_on : (w' : GraphWorld P) (s : P.Task) (q q' : P.Node) → node_of P w s ≡ q → IsSameMemory P w w' → ((n : P.Mutex) → P.Has (P.held q) n → P.Has (P.held q') n) → ((x : P.AbstractCell) (n : P.Mutex) → T.pending q x n → T.pending q' x n)
        → (c : P.Cell) → P.shared (P.abstract_cell c) → (wr : Write P) → last c ≡ Some wr → wr.by ≡ s → IsSynced P T wr q' (P.abstract_cell c) (w'.content c)
    synced_on w' s q q' here same held pending c shared wr is by =
        subst (λ k. IsSynced P T wr q' (P.abstract_cell c) k) (sym (same c)) (λ m under. elim (synced_at s q here c shared wr is by m under) [ inl h ↦ inl h | inr p ↦ inr (held m p.0, pending (P.abstract_cell c) m p.1) ])

    -- a step that takes no mutex
    steady : (w' : GraphWorld P) (last' : Writers P) (s : P.Task) (q q' : P.Node) (ρ ρ' : P.Valuation) (st st' : Status P.Mutex) → w.situation s ≡ at P q ρ st → w'.situation s ≡ at P q' ρ' st' → ((i : P.Task) → (i ≡ s → ⊥) → IsLeft P T (w.situation i) (w'.situation i))
        → IsChange P T w last s q w'.content last' → IsGood P T w'.content last' s (at P q' ρ' st')
        → ((n : P.Mutex) → P.Has (P.held q') n → P.Has (P.held q) n) → ((k : P.Task) → (k ≡ s → ⊥) → IsUnheld P s q' k (node_of P w k))
        → ((c : P.Cell) → P.shared (P.abstract_cell c) → (wr : Write P) → last' c ≡ Some wr → wr.by ≡ s → IsSynced P T wr q' (P.abstract_cell c) (w'.content c))
        → IsInvariant P T w' last'
    steady w' last' s q q' ρ ρ' st st' here mine others change good held unheld synced = moved P T w w' last last' s q q' ρ' st' (record {
      here = node;
      mine = mine;
      others = others;
      change = change;
      good = good;
      apart = λ k differ n a b. apart_at s q node k differ n (held n a) b;
      unheld = unheld;
      unheld_by = λ i differ active less n a b. unheld_by_at s q node i differ active less n (held n a) b;
      synced = synced;
    }) inv
      where
        node : node_of P w s ≡ q
        node = ap (λ (z : Situation P). z.node) here

    unheld_on : (s : P.Task) (q q' : P.Node) → node_of P w s ≡ q → ((P.resting q' → ⊥) → P.resting q → ⊥) → ((n : P.Mutex) → P.Has (P.found q') n → P.Has (P.found q) n) → (k : P.Task) → (k ≡ s → ⊥) → IsUnheld P s q' k (node_of P w k)
    unheld_on s q q' here active found k differ active' less n a b = unheld_at s q here k differ (active active') less n a (found n b)

    -- the same node, another status
    stays : (w' : GraphWorld P) (s : P.Task) (q : P.Node) (ρ : P.Valuation) (st st' : Status P.Mutex) → w.situation s ≡ at P q ρ st → Moves P w w' s (at P q ρ st') → IsSameMemory P w w'
        → (IsGood P T w.content last s (at P q ρ st) → IsGood P T w.content last s (at P q ρ st')) → IsInvariant P T w' last
    stays w' s q ρ st st' here moves same change = steady w' last s q q ρ ρ st st' here moves.mine (left_of w w' s (at P q ρ st') moves) (quiet w w' last s q same)
        (subst (λ κ. IsGood P T κ last s (at P q ρ st')) (sym (same_fun w w' same)) (change (good_at s (at P q ρ st) here)))
        (λ n a. a) (unheld_on s q q (ap (λ (z : Situation P). z.node) here) (λ a. a) (λ n a. a)) (synced_on w' s q q (ap (λ (z : Situation P). z.node) here) same (λ n a. a) (λ x n a. a))

    -- an edge without effect on memory and mutexes
    passing : (w' : GraphWorld P) (e : P.Edge) (ρ ρ' : P.Valuation) (st : Status P.Mutex) → (P.resting (P.from e) → ⊥) → Passes P (P.from e) (P.to e) → ((x : P.AbstractCell) (n : P.Mutex) → T.pending (P.from e) x n → T.pending (P.to e) x n)
        → w.situation (P.actor e) ≡ at P (P.from e) ρ st → Moves P w w' (P.actor e) (at P (P.to e) ρ' st) → IsSameMemory P w w'
        → IsGood P T w.content last (P.actor e) (at P (P.to e) ρ' st) → IsInvariant P T w' last
    passing w' e ρ ρ' st active passes pending here moves same good = steady w' last (P.actor e) (P.from e) (P.to e) ρ ρ' st st here moves.mine (left_of w w' (P.actor e) (at P (P.to e) ρ' st) moves) (quiet w w' last (P.actor e) (P.from e) same)
        (subst (λ κ. IsGood P T κ last (P.actor e) (at P (P.to e) ρ' st)) (sym (same_fun w w' same)) good)
        passes.held_down (unheld_on (P.actor e) (P.from e) (P.to e) (ap (λ (z : Situation P). z.node) here) (λ _. active) passes.found_down) (synced_on w' (P.actor e) (P.from e) (P.to e) (ap (λ (z : Situation P). z.node) here) same passes.held_up pending)

    at_lock : (e : P.Edge) → P.resting (P.from e) → (m : P.Mutex) × (P.operation e ≡ lock m)
    at_lock e r = shape.rests_lock e r

    no_lock : (o : Operation P.Temporary P.Mutex) (m : P.Mutex) → o ≡ lock m → o ≡ calculation → ⊥
    no_lock o m a b = cc

    calc_active : (e : P.Edge) → P.operation e ≡ calculation → P.resting (P.from e) → ⊥
    calc_active e is r = let a : P.operation e ≡ lock (at_lock e r).0 = (at_lock e r).1 in cc

    load_active : (e : P.Edge) (a t : P.Temporary) → P.operation e ≡ load a t → P.resting (P.from e) → ⊥
    load_active e a t is r = let l : P.operation e ≡ lock (at_lock e r).0 = (at_lock e r).1 in cc

    load_any_active : (e : P.Edge) (a : P.Temporary) → P.operation e ≡ load_any a → P.resting (P.from e) → ⊥
    load_any_active e a is r = let l : P.operation e ≡ lock (at_lock e r).0 = (at_lock e r).1 in cc

    store_active : (e : P.Edge) (a t : P.Temporary) → P.operation e ≡ store a t → P.resting (P.from e) → ⊥
    store_active e a t is r = let l : P.operation e ≡ lock (at_lock e r).0 = (at_lock e r).1 in cc

    clear_active : (e : P.Edge) → P.operation e ≡ clear → P.resting (P.from e) → ⊥
    clear_active e is r = let l : P.operation e ≡ lock (at_lock e r).0 = (at_lock e r).1 in cc

    unlock_active : (e : P.Edge) (m : P.Mutex) → P.operation e ≡ unlock m → P.resting (P.from e) → ⊥
    unlock_active e m is r = let l : P.operation e ≡ lock (at_lock e r).0 = (at_lock e r).1 in cc

    yield_active : (e : P.Edge) → P.operation e ≡ yields → P.resting (P.from e) → ⊥
    yield_active e is r = let l : P.operation e ≡ lock (at_lock e r).0 = (at_lock e r).1 in cc

    probe_active : (e : P.Edge) (m : P.Mutex) (t : P.Temporary) (b : Bool) → P.operation e ≡ probe m t b → P.resting (P.from e) → ⊥
    probe_active e m t b is r = let l : P.operation e ≡ lock (at_lock e r).0 = (at_lock e r).1 in cc

    not_held : (e : P.Edge) (ρ : P.Valuation) (m : P.Mutex) → Runs P w e ρ → IsFree P w m → P.Has (P.held (P.from e)) m → ⊥
    not_held e ρ m runs free a = free (P.actor e) (subst (λ (z : Situation P). P.Has (P.held z.node) m) (sym runs.here) a)

    module _ (sol : IsSolution P T) where
      stored : (w' : GraphWorld P) (e : P.Edge) (ρ : P.Valuation) (a v : P.Temporary) (c : P.Cell) → P.operation e ≡ store a v → Runs P w e ρ → IsAccess P e ρ a c
          → Moves P w w' (P.actor e) (at P (P.to e) ρ ready) → w'.content c ≡ given (P.value_of ρ v) → ((d : P.Cell) → (d ≡ c → ⊥) → w'.content d ≡ w.content d)
          → IsInvariant P T w' (wrote P T last c (record { by = P.actor e; under = P.held (P.from e) }))
      stored w' e ρ a v c is runs access moves written else = steady w' (wrote P T last c new) (P.actor e) (P.from e) (P.to e) ρ ρ ready ready runs.here moves.mine (left_of w w' (P.actor e) (at P (P.to e) ρ ready) moves)
          change (store_good P T w.content w'.content last (wrote P T last c new) e ρ (P.value_of ρ v) c active passes written else (wrote_there P T last c new) cover good)
          passes.held_down (unheld_on (P.actor e) (P.from e) (P.to e) (ap (λ (z : Situation P). z.node) runs.here) (λ _. active) passes.found_down) (λ d shared wr here by. synced d shared wr here by (P.same_cell d c))
        where
          new : Write P
          new = record { by = P.actor e; under = P.held (P.from e) }

          active : P.resting (P.from e) → ⊥
          active = store_active e a v is

          passes : Passes P (P.from e) (P.to e)
          passes = shape.store_passes e a v is

          good : IsGood P T w.content last (P.actor e) (at P (P.from e) ρ ready)
          good = good_at (P.actor e) (at P (P.from e) ρ ready) runs.here

          cover : CoversStore P T e ρ (P.value_of ρ v) c
          cover = sol.stores e ρ a v c is good.inside access

          changed : (d : P.Cell) → P.shared (P.abstract_cell d) → Dec (d ≡ c) → IsSame P T w last w'.content (wrote P T last c new) d ⊎ IsWritten P T w (P.actor e) (P.from e) w'.content (wrote P T last c new) d
          changed d shared (yes at_c) = inr (record {
            value = P.value_of ρ v;
            content = ap w'.content at_c ∙ written;
            writer = wrote_here P T last c new d at_c;
            first = runs.first;
            entered = subst (λ x. T.weak (P.actor e) (P.held (P.from e)) x (P.value_of ρ v)) (ap P.abstract_cell (sym at_c)) (cover.added (subst P.shared (ap P.abstract_cell at_c) shared));
          })
          changed d shared (no off) = inl (record { content = else d off; writer = wrote_there P T last c new d off })

          untouched : (d : P.Cell) (i : P.Task) → P.owned (P.abstract_cell d) i → (i ≡ P.actor e → ⊥) → Usable P (P.actor e) c → Dec (d ≡ c) → w'.content d ≡ w.content d
          untouched d i mine differ (inl shared) (yes at_c) = absurd (shape.not_both (P.abstract_cell c) i shared (subst (λ x. P.owned x i) (ap P.abstract_cell at_c) mine))
          untouched d i mine differ (inr owned) (yes at_c) = absurd (differ (shape.one_owner (P.abstract_cell c) i (P.actor e) (subst (λ x. P.owned x i) (ap P.abstract_cell at_c) mine) owned))
          untouched d i mine differ usable (no off) = else d off

          change : IsChange P T w last (P.actor e) (P.from e) w'.content (wrote P T last c new)
          change = record { shared = λ d shared. changed d shared (P.same_cell d c); local = λ d i mine differ. untouched d i mine differ access.usable (P.same_cell d c) }

          some_same : (o : Option (Write P)) (x y : Write P) → o ≡ Some x → o ≡ Some y → x ≡ y
          some_same o x y f g = cc

          synced : (d : P.Cell) → P.shared (P.abstract_cell d) → (wr : Write P) → wrote P T last c new d ≡ Some wr → wr.by ≡ P.actor e → Dec (d ≡ c) → IsSynced P T wr (P.to e) (P.abstract_cell d) (w'.content d)
          synced d shared wr here by (yes at_c) m under =
              let mine : P.Has (P.held (P.from e)) m = subst (λ (x : Write P). P.Has x.under m) (some_same (wrote P T last c new d) wr new here (wrote_here P T last c new d at_c)) under in
              inr (passes.held_up m mine, subst (λ x. T.pending (P.to e) x m) (ap P.abstract_cell (sym at_c)) (cover.pending m (subst P.shared (ap P.abstract_cell at_c) shared) mine))
          synced d shared wr here by (no off) m under =
              subst (λ k. IsHandedOver P T wr m (P.abstract_cell d) k ⊎ IsPending P T (P.to e) m (P.abstract_cell d)) (sym (else d off))
              (elim (synced_at (P.actor e) (P.from e) (ap (λ (z : Situation P). z.node) runs.here) d shared wr (sym (wrote_there P T last c new d off) ∙ here) by m under) [
                | inl h ↦ inl h
                | inr p ↦ inr (passes.held_up m p.0, cover.pending_other d m off p.1)
              ])

      cleared : (w' : GraphWorld P) (e : P.Edge) (ρ : P.Valuation) → P.operation e ≡ clear → Runs P w e ρ → Moves P w w' (P.actor e) (at P (P.to e) ρ ready)
          → ((c : P.Cell) → P.clears e c → w'.content c ≡ P.cleared c) → ((c : P.Cell) → (P.clears e c → ⊥) → w'.content c ≡ w.content c) → IsInvariant P T w' last
      cleared w' e ρ is runs moves here there = steady w' last (P.actor e) (P.from e) (P.to e) ρ ρ ready ready runs.here moves.mine (left_of w w' (P.actor e) (at P (P.to e) ρ ready) moves)
          (record {
            shared = λ d shared. inl (record { content = there d (shared_stays d shared); writer = refl });
            local = λ d i mine differ. there d (λ k. differ (shape.one_owner (P.abstract_cell d) i (P.actor e) mine (shape.clears_own e d k)));
          })
          (clear_good P T shape w.content w'.content last e ρ active passes here there cover good)
          passes.held_down (unheld_on (P.actor e) (P.from e) (P.to e) (ap (λ (z : Situation P). z.node) runs.here) (λ _. active) passes.found_down) synced
        where
          active : P.resting (P.from e) → ⊥
          active = clear_active e is

          passes : Passes P (P.from e) (P.to e)
          passes = shape.clear_passes e is

          good : IsGood P T w.content last (P.actor e) (at P (P.from e) ρ ready)
          good = good_at (P.actor e) (at P (P.from e) ρ ready) runs.here

          cover : CoversClear P T e ρ
          cover = sol.clears e ρ is good.inside

          shared_stays : (d : P.Cell) → P.shared (P.abstract_cell d) → P.clears e d → ⊥
          shared_stays d shared k = shape.not_both (P.abstract_cell d) (P.actor e) shared (shape.clears_own e d k)

          synced : (c : P.Cell) → P.shared (P.abstract_cell c) → (wr : Write P) → last c ≡ Some wr → wr.by ≡ P.actor e → IsSynced P T wr (P.to e) (P.abstract_cell c) (w'.content c)
          synced c shared wr is' by m under =
              subst (λ k. IsHandedOver P T wr m (P.abstract_cell c) k ⊎ IsPending P T (P.to e) m (P.abstract_cell c)) (sym (there c (shared_stays c shared)))
              (elim (synced_at (P.actor e) (P.from e) (ap (λ (z : Situation P). z.node) runs.here) c shared wr is' by m under) [
                | inl h ↦ inl h
                | inr p ↦ inr (passes.held_up m p.0, cover.pending (P.abstract_cell c) m p.1)
              ])

      locked : (w' : GraphWorld P) (e : P.Edge) (ρ : P.Valuation) (m : P.Mutex) → P.operation e ≡ lock m → Runs P w e ρ → IsFree P w m → Moves P w w' (P.actor e) (at P (P.to e) ρ ready) → IsSameMemory P w w' → IsInvariant P T w' last
      locked w' e ρ m is runs free moves same = moved P T w w' last last (P.actor e) (P.from e) (P.to e) ρ ready (record {
        here = node;
        mine = moves.mine;
        others = left_of w w' (P.actor e) (at P (P.to e) ρ ready) moves;
        change = quiet w w' last (P.actor e) (P.from e) same;
        good = subst (λ κ. IsGood P T κ last (P.actor e) (at P (P.to e) ρ ready)) (sym (same_fun w w' same)) (lock_good P T shape w last e ρ m is not free inv.synced cover good);
        apart = λ k differ n a b. elim (shape.lock_held e m n is not a) [
          | inl old ↦ apart_at (P.actor e) (P.from e) node k differ n old b
          | inr new ↦ free k (subst (λ j. P.Has (P.held (node_of P w k)) j) new b)
        ];
        unheld = λ k differ active less n a b. shape.lock_found e m n is not b;
        unheld_by = λ i differ active less n a b. elim (idle P (w.situation i).status (runs.first i less)) [
          | inl calm ↦ (inv.good i).calm_found calm n b
          | inr stop ↦ active ((inv.good i).stopped stop)
        ];
        synced = synced_on w' (P.actor e) (P.from e) (P.to e) node same (λ n. shape.lock_kept e m n is not) cover.keeps.pending;
      }) inv
        where
          node : node_of P w (P.actor e) ≡ P.from e
          node = ap (λ (z : Situation P). z.node) runs.here

          not : P.Has (P.held (P.from e)) m → ⊥
          not = not_held e ρ m runs free

          good : IsGood P T w.content last (P.actor e) (at P (P.from e) ρ ready)
          good = good_at (P.actor e) (at P (P.from e) ρ ready) runs.here

          cover : CoversLock P T e ρ m
          cover = sol.locks e ρ m is good.inside not

      unlocked : (w' : GraphWorld P) (e : P.Edge) (ρ : P.Valuation) (m : P.Mutex) → P.operation e ≡ unlock m → Runs P w e ρ → P.Has (P.held (P.from e)) m
          → w'.situation (P.actor e) ≡ at P (P.to e) ρ ready → ((i : P.Task) → (i ≡ P.actor e → ⊥) → IsReleased P m (w.situation i) (w'.situation i)) → IsSameMemory P w w' → IsInvariant P T w' last
      unlocked w' e ρ m is runs mine moved_to released same = steady w' last (P.actor e) (P.from e) (P.to e) ρ ρ ready ready runs.here moved_to (λ i differ. released_left m (w.situation i) (w'.situation i) (released i differ)) (quiet w w' last (P.actor e) (P.from e) same)
          (subst (λ κ. IsGood P T κ last (P.actor e) (at P (P.to e) ρ ready)) (sym (same_fun w w' same)) (unlock_good P T w.content last e ρ m active (λ n. shape.unlock_held e m n is mine) (λ n. shape.unlock_found e m n is mine) cover good))
          (λ n. shape.unlock_held e m n is mine) (unheld_on (P.actor e) (P.from e) (P.to e) node (λ _. active) (λ n. shape.unlock_found e m n is mine)) synced
        where
          node : node_of P w (P.actor e) ≡ P.from e
          node = ap (λ (z : Situation P). z.node) runs.here

          active : P.resting (P.from e) → ⊥
          active = unlock_active e m is

          good : IsGood P T w.content last (P.actor e) (at P (P.from e) ρ ready)
          good = good_at (P.actor e) (at P (P.from e) ρ ready) runs.here

          cover : CoversUnlock P T e ρ m
          cover = sol.unlocks e ρ m is good.inside mine

          some_same : (o : Option (Write P)) (x y : Write P) → o ≡ Some x → o ≡ Some y → x ≡ y
          some_same o x y f g = cc

          -- the last writer knows the value, so it is what is handed over
          hand : (c : P.Cell) → P.shared (P.abstract_cell c) → (wr : Write P) → last c ≡ Some wr → wr.by ≡ P.actor e → T.pending (P.from e) (P.abstract_cell c) m → IsViewed P T (P.actor e) (P.from e) ρ (P.abstract_cell c) (w.content c) (last c)
              → IsHandedOver P T wr m (P.abstract_cell c) (w.content c)
          hand c shared wr is' by pending (inl f) = absurd (f.other (ap (λ (x : Write P). x.by) (some_same (last c) f.write wr f.is is') ∙ by))
          hand c shared wr is' by pending (inr k) = record {
            value = k.value;
            is = k.is;
            entered = subst (λ i. T.sync i m (P.abstract_cell c) k.value) (sym by) (cover.added (P.abstract_cell c) k.value shared pending k.own);
          }

          pass_on : (c : P.Cell) → P.shared (P.abstract_cell c) → (wr : Write P) → last c ≡ Some wr → wr.by ≡ P.actor e → (n : P.Mutex) → Dec (n ≡ m) → IsPending P T (P.from e) n (P.abstract_cell c)
              → IsHandedOver P T wr n (P.abstract_cell c) (w.content c) ⊎ IsPending P T (P.to e) n (P.abstract_cell c)
          pass_on c shared wr is' by n (yes same_m) p = inl (subst (λ k. IsHandedOver P T wr k (P.abstract_cell c) (w.content c)) (sym same_m) (hand c shared wr is' by (subst (λ k. T.pending (P.from e) (P.abstract_cell c) k) same_m p.1) (good.views c shared)))
          pass_on c shared wr is' by n (no other) p = inr (shape.unlock_kept e m n is mine other p.0, cover.pending (P.abstract_cell c) n other p.1)

          synced : (c : P.Cell) → P.shared (P.abstract_cell c) → (wr : Write P) → last c ≡ Some wr → wr.by ≡ P.actor e → IsSynced P T wr (P.to e) (P.abstract_cell c) (w'.content c)
          synced c shared wr is' by n under =
              subst (λ k. IsHandedOver P T wr n (P.abstract_cell c) k ⊎ IsPending P T (P.to e) n (P.abstract_cell c)) (sym (same c))
              (elim (synced_at (P.actor e) (P.from e) node c shared wr is' by n under) [
                | inl h ↦ inl h
                | inr p ↦ pass_on c shared wr is' by n (P.same_mutex n m) p
              ])

      waited : (w' : GraphWorld P) (e : P.Edge) (ρ : P.Valuation) → P.operation e ≡ yields → Runs P w e ρ → Moves P w w' (P.actor e) (at P (P.to e) ρ waiting) → IsSameMemory P w w' → IsInvariant P T w' last
      waited w' e ρ is runs moves same = steady w' last (P.actor e) (P.from e) (P.to e) ρ ρ ready waiting runs.here moves.mine (left_of w w' (P.actor e) (at P (P.to e) ρ waiting) moves) (quiet w w' last (P.actor e) (P.from e) same)
          (subst (λ κ. IsGood P T κ last (P.actor e) (at P (P.to e) ρ waiting)) (sym (same_fun w w' same)) (yield_good P T shape w.content last e ρ is (yield_active e is) cover good))
          (λ n. shape.yield_held e n is) (λ k differ active less n a b. shape.yield_found e n is b) (synced_on w' (P.actor e) (P.from e) (P.to e) node same (λ n. shape.yield_kept e n is) cover.keeps.pending)
        where
          node : node_of P w (P.actor e) ≡ P.from e
          node = ap (λ (z : Situation P). z.node) runs.here

          good : IsGood P T w.content last (P.actor e) (at P (P.from e) ρ ready)
          good = good_at (P.actor e) (at P (P.from e) ρ ready) runs.here

          cover : CoversYield P T e ρ
          cover = sol.waits e ρ is good.inside

      found_free : (w' : GraphWorld P) (e : P.Edge) (ρ : P.Valuation) (m : P.Mutex) (t : P.Temporary) → P.operation e ≡ probe m t false → Runs P w e ρ → IsFree P w m
          → Moves P w w' (P.actor e) (at P (P.to e) (P.put ρ t (P.bit false)) ready) → IsSameMemory P w w' → IsInvariant P T w' last
      found_free w' e ρ m t is runs free moves same = steady w' last (P.actor e) (P.from e) (P.to e) ρ ρ' ready ready runs.here moves.mine (left_of w w' (P.actor e) (at P (P.to e) ρ' ready) moves) (quiet w w' last (P.actor e) (P.from e) same)
          (subst (λ κ. IsGood P T κ last (P.actor e) (at P (P.to e) ρ' ready)) (sym (same_fun w w' same)) (free_good P T shape w last e ρ ρ' m t is active not free inv.synced cover good))
          (λ n. shape.free_held e m t n is not) unheld (synced_on w' (P.actor e) (P.from e) (P.to e) node same (λ n. shape.free_kept e m t n is not) cover.keeps.pending)
        where
          ρ' : P.Valuation
          ρ' = P.put ρ t (P.bit false)

          node : node_of P w (P.actor e) ≡ P.from e
          node = ap (λ (z : Situation P). z.node) runs.here

          active : P.resting (P.from e) → ⊥
          active = probe_active e m t false is

          not : P.Has (P.held (P.from e)) m → ⊥
          not = not_held e ρ m runs free

          good : IsGood P T w.content last (P.actor e) (at P (P.from e) ρ ready)
          good = good_at (P.actor e) (at P (P.from e) ρ ready) runs.here

          cover : CoversFree P T e ρ' m
          cover = sol.finds_free e ρ m t is good.inside not

          unheld : (k : P.Task) → (k ≡ P.actor e → ⊥) → IsUnheld P (P.actor e) (P.to e) k (node_of P w k)
          unheld k differ active' less n a b = elim (shape.free_found e m t n is not b) [
            | inl old ↦ unheld_at (P.actor e) (P.from e) node k differ active less n a old
            | inr new ↦ free k (subst (λ j. P.Has (P.held (node_of P w k)) j) new a)
          ]

  -- every step keeps the invariant
  pub step_keeps : IsShaped P → IsSolution P T → (w w' : GraphWorld P) (last : Writers P) → IsInvariant P T w last → GraphStep P w w' → (last' : Writers P) × IsInvariant P T w' last'
  step_keeps shape sol w w' last inv (wake s q ρ here moves same) = (
    last,
    stays shape w last inv w' s q ρ waiting ready here moves same (λ good. record {
      inside = good.inside;
      locals = good.locals;
      views = good.views;
      calm_fresh = λ e. absurd (ready_not_waiting P ready refl e);
      calm_found = λ e. absurd (ready_not_waiting P ready refl e);
      stopped = λ t. absurd (ready_goes P ready refl t);
    }),
  )
  step_keeps shape sol w w' last inv (finish s q ρ st here awake ends moves same) = (
    last,
    stays shape w last inv w' s q ρ st done here moves same (λ good. record {
      inside = good.inside;
      locals = good.locals;
      views = good.views;
      calm_fresh = λ e. cc;
      calm_found = λ e. cc;
      stopped = λ t. shape.ends_rest q ends;
    }),
  )
  step_keeps shape sol w w' last inv (calculate e ρ ρ' st is here awake does moves same) =
      let good : IsGood P T w.content last (P.actor e) (at P (P.from e) ρ st) = good_at shape w last inv (P.actor e) (at P (P.from e) ρ st) here in
      let cover : CoversCalc P T e ρ ρ' = sol.calcs e ρ ρ' is good.inside (has_locals P T shape w.content last e ρ st good) does in
      let active : (P.resting (P.from e) → ⊥) = calc_active shape w last inv e is in
      (last, passing shape w last inv w' e ρ ρ' st active (shape.calc_passes e is) cover.pending here moves same (calc_good P T w.content last e ρ ρ' st active (shape.calc_passes e is) awake cover good))
  step_keeps shape sol w w' last inv (loads e ρ a t c v is runs access reads moves same) =
      let good : IsGood P T w.content last (P.actor e) (at P (P.from e) ρ ready) = good_at shape w last inv (P.actor e) (at P (P.from e) ρ ready) runs.here in
      let active : (P.resting (P.from e) → ⊥) = load_active shape w last inv e a t is in
      let cover : CoversLoad P T e ρ t c v = sol.loads e ρ a t c v is good.inside access (load_seen P T w.content last e ρ c v active (λ wr shared here. inv.entries c shared wr here) good access.usable reads) in
      (last, passing shape w last inv w' e ρ (P.put ρ t v) ready active (shape.load_passes e a t is) cover.keeps.pending runs.here moves same (load_good P T shape w.content last e ρ t c v active (shape.load_passes e a t is) reads cover good))
  step_keeps shape sol w w' last inv (loads_any e ρ ρ' a c is runs access does moves same) =
      let good : IsGood P T w.content last (P.actor e) (at P (P.from e) ρ ready) = good_at shape w last inv (P.actor e) (at P (P.from e) ρ ready) runs.here in
      let active : (P.resting (P.from e) → ⊥) = load_any_active shape w last inv e a is in
      let cover : CoversCalc P T e ρ ρ' = sol.loads_any e ρ ρ' a c is good.inside (has_locals P T shape w.content last e ρ ready good) access does in
      (last, passing shape w last inv w' e ρ ρ' ready active (shape.load_any_passes e a is) cover.pending runs.here moves same (calc_good P T w.content last e ρ ρ' ready active (shape.load_any_passes e a is) awake_ready cover good))
  step_keeps shape sol w w' last inv (stores e ρ a v c is runs access moves written else) = (wrote P T last c (record { by = P.actor e; under = P.held (P.from e) }), stored shape w last inv sol w' e ρ a v c is runs access moves written else)
  step_keeps shape sol w w' last inv (clearing e ρ is runs moves here there) = (last, cleared shape w last inv sol w' e ρ is runs moves here there)
  step_keeps shape sol w w' last inv (locks e ρ m is runs free moves same) = (last, locked shape w last inv sol w' e ρ m is runs free moves same)
  step_keeps shape sol w w' last inv (blocks e ρ m is runs not busy moves same) = (
    last,
    stays shape w last inv w' (P.actor e) (P.from e) ρ ready (blocked m) runs.here moves same (λ good. record {
      inside = good.inside;
      locals = good.locals;
      views = good.views;
      calm_fresh = λ f. cc;
      calm_found = λ f. cc;
      stopped = λ t. shape.locks_rest e m is;
    }),
  )
  step_keeps shape sol w w' last inv (unlocks e ρ m is runs mine moved_to released same) = (last, unlocked shape w last inv sol w' e ρ m is runs mine moved_to released same)
  step_keeps shape sol w w' last inv (waits e ρ is runs moves same) = (last, waited shape w last inv sol w' e ρ is runs moves same)
  step_keeps shape sol w w' last inv (finds_held e ρ m t is runs busy moves same) =
      let good : IsGood P T w.content last (P.actor e) (at P (P.from e) ρ ready) = good_at shape w last inv (P.actor e) (at P (P.from e) ρ ready) runs.here in
      let active : (P.resting (P.from e) → ⊥) = probe_active shape w last inv e m t true is in
      let cover : CoversHeld P T e ρ (P.put ρ t (P.bit true)) = sol.finds_held e ρ m t is good.inside in
      (last, passing shape w last inv w' e ρ (P.put ρ t (P.bit true)) ready active (shape.held_passes e m t is) cover.keeps.pending runs.here moves same (held_good P T w.content last e ρ (P.put ρ t (P.bit true)) active (shape.held_passes e m t is) cover good))
  step_keeps shape sol w w' last inv (finds_free e ρ m t is runs free moves same) = (last, found_free shape w last inv sol w' e ρ m t is runs free moves same)
