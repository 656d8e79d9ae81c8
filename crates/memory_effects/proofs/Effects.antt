-- What the code of each edge gives is what the rows say.
use Rattle.std.specs.Prelude.{◌≡◌, ◌↔◌, ℕ, pos, Bool, true, false, ◌&&◌, cond, eqb, IsTrue, List, [], Option, Some}
use Rattle.std.specs.Prelude.{None, refl}
use Rattle.std.proofs.Common.{sym, ap, subst, ◌∙◌}
use Rattle.std.proofs.lemmas.Bool.{false≢true, true≢false, eq-eqb}
use Rattle.std.specs.Option.{option_map}
use Rattle.std.specs.FinMap as tables
use Rattle.std.specs.FinMap.{get, keys, retain_keys}
use Rattle.strided_dom.specs.Progression.{single}
use Rattle.tm_typed.specs.tm_cint.declared.Class.{Class}
use Rattle.tm_typed.specs.tm_cint.declared.Class.TheVariants.{Overflow, Shift, Index, Pointer, Deref, Lock, Race}
use Rattle.tm_typed.specs.tm_cint.declared.Class.TheVariants.{Div as DivByZero}
use Rattle.tm_lattice.specs.Tables.{Table}
use Rattle.pointer_dom.specs.Values.{Values, no_value}
use Rattle.interfere_set.specs.Stores.{Interferences, no_interference}
use Rattle.transfer_int.specs.Outcomes.{notes}
use Rattle.transfer_int.specs.declared.outcomes.Classes.{Classes}
use Rattle.edge_effects.specs.calculations.transfer_rows.StateForms.{State, value_of}
use Rattle.edge_effects.specs.calculations.transfer_rows.Actions.{Spot, Around, stores, clears, locks, unlocks, yields}
use Rattle.edge_effects.specs.calculations.transfer_rows.Actions.{probes}
use Rattle.edge_effects.specs.calculations.transfer_rows.Accesses.{is_among, targets_at}
use Rattle.edge_effects.specs.calculations.transfer_rows.Rows.{holds, given, arrived, after_store, after_clear}
use Rattle.edge_effects.specs.calculations.transfer_rows.Rows.{after_lock}
use Rattle.edge_effects.specs.calculations.transfer_rows.Rows.{after_unlock, after_yield, after_free, effect}
use Rattle.edge_effects.specs.calculations.transfer_rows.StateForms.{only_numbers}
use Rattle.edge_effects.specs.calculations.transfer_rows.Contributions.{cells_added, nested_under, added}
use Rattle.edge_effects.specs.calculations.transfer_rows.Reports.{targets_of, left_by, weak_of, sync_of, IsListed}
use Rattle.edge_effects.specs.calculations.Given.{no_class}
use Rattle.edge_effects.proofs.low.calculations.Calculating.{nothing_noted}
use Rattle.edge_effects.specs.Effects.{IsAfter}
use Rattle.edge_effects.specs.declared.views.After.{After}
use Rattle.memory_effects.proofs.Contributing.{none_added, under_none}

-- ---- classes

-- no class is noted, where none may be
none_may : (classes : Classes) (class : Class) → classes ≡ no_class → IsTrue (notes classes class) ↔ ⊥
none_may classes class none = (λ h. nothing_noted class (subst (λ k. IsTrue (notes k class)) none h), λ h. absurd h)

abbrev lock_class : Bool → Classes
lock_class b = record no_class { lock = b }

lock_noted : (class : Class) → IsTrue (notes (lock_class true) class) → class ≡ Lock
lock_noted Overflow h = absurd (false≢true h)
lock_noted DivByZero h = absurd (false≢true h)
lock_noted Shift h = absurd (false≢true h)
lock_noted Index h = absurd (false≢true h)
lock_noted Pointer h = absurd (false≢true h)
lock_noted Deref h = absurd (false≢true h)
lock_noted Lock h = refl
lock_noted Race h = absurd (false≢true h)

may : (classes : Classes) (class : Class) (P : Type 0) → P → classes ≡ lock_class true → IsTrue (notes classes class) ↔ ((class ≡ Lock) × P)
may classes class P p is = (
  λ h. (lock_noted class (subst (λ k. IsTrue (notes k class)) is h), p),
  λ h. subst (λ k. IsTrue (notes k class)) (sym is) (subst (λ k. IsTrue (notes (lock_class true) k)) (sym h.0) refl),
)

may_not : (classes : Classes) (class : Class) (P : Type 0) → (P → ⊥) → classes ≡ lock_class false → IsTrue (notes classes class) ↔ ((class ≡ Lock) × P)
may_not classes class P never is = (
  λ h. absurd (nothing_noted class (subst (λ k. IsTrue (notes k class)) is h)),
  λ h. absurd (never h.1),
)

module _ (around : Around) (s : State) (store : Interferences) (r : After) where
  -- ---- stores

  module _ (spots : List Spot) (address source : ℕ) where
    pub store_is : (xs : List ℕ) → xs ≡ targets_at spots (value_of s address).pointers → r.targets.items ≡ xs → r.classes ≡ no_class
        → r.added.weak ≡ nested_under around.reader.task around.reader.held (cells_added (λ x. cond (around.is_shared x && is_among xs x) (value_of s source) no_value) xs) → r.added.sync ≡ tables.empty
        → r.state ≡ option_map (arrived around) (after_store around s (value_of s source) xs) → IsAfter around (stores spots address source) s store r
    unfolding effect added targets_of weak_of IsListed
    store_is xs at targets none weak sync state = record {
      state = state ∙ ap (λ ys. option_map (arrived around) (after_store around s (value_of s source) ys)) at;
      added = λ i. record {
        weak = (weak ∙ ap (λ ys. nested_under around.reader.task around.reader.held (cells_added (λ x. cond (around.is_shared x && is_among ys x) (value_of s source) no_value) ys)) at) i;
        sync = sync i;
      };
      targets = targets ∙ at;
      classes = λ class. none_may r.classes class none;
    }

  module _ (targets-are : r.targets.items ≡ []) where
    -- ---- unlocks

    module _ (m : ℕ) where
      held_both : holds around m ≡ true → (b : Bool) → b ≡ (b && (eqb m m && holds around m))
      held_both held true = sym (ap (λ k. k && holds around m) (eq-eqb m m refl) ∙ held)
      held_both held false = refl

      never_both : holds around m ≡ false → (b : Bool) → (b && (eqb m m && holds around m)) ≡ false
      never_both free true = ap (λ k. k && holds around m) (eq-eqb m m refl) ∙ free
      never_both free false = refl

      pub unlock_held : holds around m ≡ true → r.classes ≡ lock_class false → r.added.weak ≡ tables.empty
          → r.added.sync ≡ nested_under around.reader.task m (cells_added (λ x. cond (around.is_shared x) (left_by m (get s.cells x)) no_value) (keys s.cells))
          → r.state ≡ Some (arrived around (after_unlock s m)) → IsAfter around (unlocks m) s store r
      unfolding effect added targets_of sync_of IsListed
      unlock_held held none weak sync state =
          let both : (λ (x : ℕ). cond (around.is_shared x) (left_by m (get s.cells x)) no_value) ≡ sync_of around (unlocks m) s m = λ i x. cond (held_both held (around.is_shared x) i) (left_by m (get s.cells x)) no_value in record {
            state = state ∙ sym (ap (λ b. option_map (arrived around) (cond b (Some (after_unlock s m)) None)) held);
            added = λ i. record { weak = weak i; sync = (sync ∙ ap (λ f. nested_under around.reader.task m (cells_added f (keys s.cells))) both) i };
            targets = targets-are;
            classes = λ class. may_not r.classes class (holds around m ≡ false) (λ free. true≢false (sym held ∙ free)) none;
          }

      pub unlock_free : holds around m ≡ false → r.classes ≡ lock_class true → r.added ≡ no_interference → r.state ≡ None → IsAfter around (unlocks m) s store r
      unfolding effect added targets_of sync_of IsListed
      unlock_free free lock added-is state = record {
        state = state ∙ sym (ap (λ b. option_map (arrived around) (cond b (Some (after_unlock s m)) None)) free);
        added = added-is ∙ (λ i. record {
          weak = tables.empty;
          sync = (sym (under_none around.reader.task m (cells_added (sync_of around (unlocks m) s m) (keys s.cells))
              (none_added (sync_of around (unlocks m) s m) (keys s.cells) (λ x. ap (λ b. cond b (left_by m (get s.cells x)) no_value) (never_both free (around.is_shared x)))))) i;
        });
        targets = targets-are;
        classes = λ class. may r.classes class (holds around m ≡ false) free lock;
      }

    module _ (added-is : r.added ≡ no_interference) where
      -- ---- locks

      pub lock_held : (m : ℕ) → holds around m ≡ true → r.classes ≡ lock_class true → r.state ≡ None → IsAfter around (locks m) s store r
      unfolding effect added targets_of IsListed
      lock_held m held lock state = record {
        state = state ∙ sym (ap (λ b. option_map (arrived around) (cond b None (Some (after_lock around s store m)))) held);
        added = added-is;
        targets = targets-are;
        classes = λ class. may r.classes class (holds around m ≡ true) held lock;
      }

      pub lock_free : (m : ℕ) → holds around m ≡ false → r.classes ≡ lock_class false → r.state ≡ Some (arrived around (after_lock around s store m)) → IsAfter around (locks m) s store r
      unfolding effect added targets_of IsListed
      lock_free m free none state = record {
        state = state ∙ sym (ap (λ b. option_map (arrived around) (cond b None (Some (after_lock around s store m)))) free);
        added = added-is;
        targets = targets-are;
        classes = λ class. may_not r.classes class (holds around m ≡ true) (λ held. true≢false (sym held ∙ free)) none;
      }

      module _ (none : r.classes ≡ no_class) where
        pub yield_is : r.state ≡ Some (arrived around (after_yield s)) → IsAfter around yields s store r
        unfolding effect added targets_of IsListed
        yield_is state = record { state = state; added = added-is; targets = targets-are; classes = λ class. none_may r.classes class none }

        pub clear_is : (cleared : ℕ → Option Values) → r.state ≡ Some (arrived around (after_clear s cleared)) → IsAfter around (clears cleared) s store r
        unfolding effect added targets_of IsListed
        clear_is cleared state = record { state = state; added = added-is; targets = targets-are; classes = λ class. none_may r.classes class none }

        -- ---- probes

        module _ (m target : ℕ) (answer : Bool) where
          pub probe_held : answer ≡ true → (v : Values) → v ≡ only_numbers (single (pos 1)) → r.state ≡ option_map (arrived around) (given s target v None) → IsAfter around (probes m target answer) s store r
          unfolding effect added targets_of IsListed
          probe_held sure v one state = record {
            state = state ∙ ap (λ w. option_map (arrived around) (given s target w None)) one ∙ ap (λ a. option_map (arrived around) (effect around (probes m target a) s store)) (sym sure);
            added = added-is;
            targets = targets-are;
            classes = λ class. none_may r.classes class none;
          }

          pub probe_never : answer ≡ false → holds around m ≡ true → r.state ≡ None → IsAfter around (probes m target answer) s store r
          unfolding effect added targets_of IsListed
          probe_never free held state = record {
            state = state ∙ sym (ap (λ b. option_map (arrived around) (cond b None (Some (after_free around s store m target)))) held) ∙ ap (λ a. option_map (arrived around) (effect around (probes m target a) s store)) (sym free);
            added = added-is;
            targets = targets-are;
            classes = λ class. none_may r.classes class none;
          }

          pub probe_free : answer ≡ false → holds around m ≡ false → r.state ≡ Some (arrived around (after_free around s store m target)) → IsAfter around (probes m target answer) s store r
          unfolding effect added targets_of IsListed
          probe_free free never state = record {
            state = state ∙ sym (ap (λ b. option_map (arrived around) (cond b None (Some (after_free around s store m target)))) never) ∙ ap (λ a. option_map (arrived around) (effect around (probes m target a) s store)) (sym free);
            added = added-is;
            targets = targets-are;
            classes = λ class. none_may r.classes class none;
          }
