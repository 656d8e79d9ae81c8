-- What covers a step also does where the state after the operation lies in a greater one with the same entries.
use Rattle.std.specs.Prelude.{◌≡◌, ℕ, Option, Some, None, refl}
use Rattle.std.proofs.Common.{subst}
use Rattle.std.specs.Int.{bit_at}
use Rattle.std.specs.FinMap.{get}
use Rattle.cell_env.specs.tm_lattice.Tables.{IsBelow}
use Rattle.interfere_set.specs.pointer_dom.Pointer.{ScalarValue}
use Rattle.interfere_set.specs.pointer_dom.Values.{Values, IsValueIn, IsValuesBelow}
use Rattle.interfere_set.proofs.low.pointer_dom.Meaning.{value_included}
use Rattle.interfere_set.specs.Stores.{Interferences}
use Rattle.transfer_rows.specs.StateForms.{Cell, State, IsTempUnder, IsCellUnder, IsStateUnder, own_value, own_of}
use Rattle.transfer_rows.specs.Actions.{Around}
use Rattle.transfer_rows.specs.Meanings.{Valuation, put}
use Rattle.transfer_rows.specs.Covering.{AreIn, HaveSameKeys, IsCopyOf, IsPending, IsFresh, IsStored, Keeps, CoversCalculation, CoversLoad, CoversStore, CoversClear, TakesOver}
use Rattle.transfer_rows.specs.Covering.{CoversLock, CoversUnlock, CoversFree, CoversYield, CoversHeld}
use Rattle.transfer_rows.proofs.CoverSteps.{none_has, bit_joined_left}

-- an entry of the greater table below which there is one
module _ {V : Type 0} (leq : V → V → Type 0) where
  pub entry_below : (a b : Option V) (v w : V) → a ≡ Some v → b ≡ Some w → IsBelow leq a b → leq v w
  entry_below a b v w e f le = subst (λ y. IsBelow leq (Some v) y) f (subst (λ x. IsBelow leq x b) e le)

  pub entry_above : (a b : Option V) (v : V) → a ≡ Some v → IsBelow leq a b → (w : V) × ((b ≡ Some w) × leq v w)
  entry_above a None v e le = absurd (subst (λ x. IsBelow leq x None) e le)
  entry_above a (Some w) v e le = (w, (refl, subst (λ x. IsBelow leq x (Some w)) e le))

own_under : (a b : Option Cell) (v : ScalarValue) → IsBelow IsCellUnder a b → IsValueIn (own_value a) v → IsValueIn (own_value b) v
own_under None b v le h = absurd (none_has v h)
own_under (Some c) None v le h = absurd le
own_under (Some c) (Some d) v le h = value_included c.value d.value v le.value h

module _ (s t : State) (le : IsStateUnder s t) (keys : HaveSameKeys s t) where
  own_more : (x : ℕ) (v : ScalarValue) → IsValueIn (own_of s x) v → IsValueIn (own_of t x) v
  own_more x v h = own_under (get s.cells x) (get t.cells x) v (le.cells x) h

  inside_more : (temps : Valuation) → AreIn s temps → AreIn t temps
  inside_more temps ins = record {
    in_value = λ u e at.
        (let k = keys.temps u (record { entry = e; stands = at }) in
        let below = entry_below IsTempUnder (get s.temps u) (get t.temps u) k.entry e k.stands at (le.temps u) in
        value_included k.entry.value e.value (temps u) below.value (ins.in_value u k.entry k.stands));
  }

  copy_less : (u x : ℕ) → IsCopyOf t u x → IsCopyOf s u x
  copy_less u x c =
      let k = keys.temps u (record { entry = c.entry; stands = c.stands }) in
      let below = entry_below IsTempUnder (get s.temps u) (get t.temps u) k.entry c.entry k.stands c.stands (le.temps u) in
      record { entry = k.entry; stands = k.stands; copy = below.copy x c.copy }

  pending_more : (x m : ℕ) → IsPending s x m → IsPending t x m
  pending_more x m p =
      let above = entry_above IsCellUnder (get s.cells x) (get t.cells x) p.entry p.stands (le.cells x) in
      let d = above.0 in
      record { entry = d; stands = above.1.0; pending = subst (λ n. bit_at n m ≡ 1) above.1.1.pending (bit_joined_left p.entry.pending d.pending m p.pending) }

  fresh_less : (x : ℕ) → IsFresh t x → IsFresh s x
  fresh_less x p =
      let k = keys.cells x (record { entry = p.entry; stands = p.stands }) in
      let below = entry_below IsCellUnder (get s.cells x) (get t.cells x) k.entry p.entry k.stands p.stands (le.cells x) in
      record { entry = k.entry; stands = k.stands; fresh = below.fresh p.fresh }

  stored_less : (x : ℕ) → IsStored t x → IsStored s x
  stored_less x p =
      let k = keys.cells x (record { entry = p.entry; stands = p.stands }) in
      let below = entry_below IsCellUnder (get s.cells x) (get t.cells x) k.entry p.entry k.stands p.stands (le.cells x) in
      record { entry = k.entry; stands = k.stands; stored = below.stored p.stored }

  keeps_more : (b : State) → Keeps b s → Keeps b t
  keeps_more b h = record {
    own = λ x v k. own_more x v (h.own x v k);
    pending = λ x m k. pending_more x m (h.pending x m k);
    fresh = λ x k. h.fresh x (fresh_less x k);
    stored = λ x k. h.stored x (stored_less x k);
  }

  module _ (b : State) where
    pub calculation_passes : (temps temps' : Valuation) → CoversCalculation b s temps temps' → CoversCalculation b t temps temps'
    calculation_passes temps temps' h = record {
      inside = inside_more temps' h.inside;
      own = λ x v k agree. own_more x v (h.own x v k agree);
      copies = λ u x k. h.copies u x (copy_less u x k);
      pending = λ x m k. pending_more x m (h.pending x m k);
      fresh = λ x k. h.fresh x (fresh_less x k);
      stored = λ x k. h.stored x (stored_less x k);
    }

    pub yield_passes : (temps : Valuation) → CoversYield b s temps → CoversYield b t temps
    yield_passes temps h = record { inside = inside_more temps h.inside; keeps = keeps_more b h.keeps; fresh = λ x k. h.fresh x (fresh_less x k); copies = λ u x k. h.copies u x (copy_less u x k) }

    pub held_passes : (temps temps' : Valuation) → CoversHeld b s temps temps' → CoversHeld b t temps temps'
    held_passes temps temps' h = record { inside = inside_more temps' h.inside; keeps = keeps_more b h.keeps; copies = λ u x k. h.copies u x (copy_less u x k) }

    module _ (around : Around) where
      pub load_passes : (temps : Valuation) (u x : ℕ) (w : ScalarValue) → CoversLoad around b s temps u x w → CoversLoad around b t temps u x w
      load_passes temps u x w h = record { inside = inside_more (put temps u w) h.inside; keeps = keeps_more b h.keeps; copies = λ k y c. h.copies k y (copy_less k y c) }

      pub store_passes : (temps : Valuation) (x : ℕ) (w : ScalarValue) (entry above : Values) → IsValuesBelow entry above → CoversStore around b s temps x w entry → CoversStore around b t temps x w above
      store_passes temps x w entry above more h = record {
        inside = inside_more temps h.inside;
        own = own_more x w h.own;
        own_other = λ y v differs k. own_more y v (h.own_other y v differs k);
        pending = λ m shared held. pending_more x m (h.pending m shared held);
        pending_other = λ y m differs k. pending_more y m (h.pending_other y m differs k);
        fresh_other = λ y differs k. h.fresh_other y differs (fresh_less y k);
        stored_other = λ y differs k. h.stored_other y differs (stored_less y k);
        copies = λ u y c. h.copies u y (copy_less u y c);
        added = λ shared. value_included entry above w more (h.added shared);
      }

      pub clear_passes : (temps : Valuation) (cleared : ℕ → Option Values) → CoversClear around b s temps cleared → CoversClear around b t temps cleared
      clear_passes temps cleared h = record {
        inside = inside_more temps h.inside;
        own = λ x v w e cell k. own_more x w (h.own x v w e cell k);
        own_other = λ x w e k. own_more x w (h.own_other x w e k);
        pending = λ x m k. pending_more x m (h.pending x m k);
        fresh = λ x k. h.fresh x (fresh_less x k);
        stored = λ x k. h.stored x (stored_less x k);
        copies = λ u x c. h.copies u x (copy_less u x c);
      }

      takes_more : (store : Interferences) (m : ℕ) → TakesOver around b s store m → TakesOver around b t store m
      takes_more store m h = λ x v shared cell k. own_more x v (h x v shared cell k)

      pub lock_passes : (store : Interferences) (temps : Valuation) (m : ℕ) → CoversLock around b s store temps m → CoversLock around b t store temps m
      lock_passes store temps m h = record {
        inside = inside_more temps h.inside;
        keeps = keeps_more b h.keeps;
        handed = takes_more store m h.handed;
        fresh = λ x k. h.fresh x (fresh_less x k);
        copies = λ u x c. h.copies u x (copy_less u x c);
      }

      pub free_passes : (store : Interferences) (temps : Valuation) (m : ℕ) → CoversFree around b s store temps m → CoversFree around b t store temps m
      free_passes store temps m h = record { inside = inside_more temps h.inside; keeps = keeps_more b h.keeps; handed = takes_more store m h.handed; copies = λ u x c. h.copies u x (copy_less u x c) }

      pub unlock_passes : (temps : Valuation) (m : ℕ) (entry above : ℕ → Values) → ((x : ℕ) → IsValuesBelow (entry x) (above x)) → CoversUnlock around b s temps m entry → CoversUnlock around b t temps m above
      unlock_passes temps m entry above more h = record {
        inside = inside_more temps h.inside;
        own = λ x v k. own_more x v (h.own x v k);
        pending = λ x n differ m_small n_small k. pending_more x n (h.pending x n differ m_small n_small k);
        fresh = λ x k. h.fresh x (fresh_less x k);
        stored = λ x k. h.stored x (stored_less x k);
        copies = λ u x c. h.copies u x (copy_less u x c);
        added = λ x v shared p k. value_included (entry x) (above x) v (more x) (h.added x v shared p k);
      }
