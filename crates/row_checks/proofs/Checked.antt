-- What the check of an edge says.
use Rattle.std.specs.Prelude.{◌≡◌, ◌-◌, ◌^◌, ◌≤◌, ℕ, zero, suc, ◌<◌, ◌||◌, Bool, true, false, List, length, bit_and}
use Rattle.std.specs.Prelude.{get_or, refl}
use Rattle.std.proofs.Common.{sym, ap, subst, ◌∙◌, inl, inr, arith}
use Rattle.std.proofs.lemmas.Bool.{and_left, and_right, or_from, ne_eqb, cases_eq}
use Rattle.std.proofs.lemmas.Grind.{get_or_default_zero}
use Rattle.std.proofs.Math.Nat.{pow-le-pow_right}
use Rattle.tm_laid.specs.tm_terms.declared.places.Place.{Place}
use Rattle.tm_laid.specs.tm_typed.declared.types.Scalar.{Scalar}
use Rattle.tm_laid.specs.Layouts.{LaidTree, laid_tree}
use Rattle.flow_graph.specs.declared.operations.Into.{Into}
use Rattle.flow_graph.specs.declared.operations.Test.{Test}
use Rattle.flow_graph.specs.declared.operations.Operation.{Operation}
use Rattle.flow_graph.specs.declared.operations.Operation.TheVariants as Op
use Rattle.sparse_rows.specs.transfer_rows.interfere_set.Stores.{Interferences}
use Rattle.sparse_rows.specs.transfer_rows.StateForms.{State}
use Rattle.sparse_rows.specs.transfer_rows.Rows.{without}
use Rattle.sparse_rows.specs.Checks.{IsChecked}
use Rattle.edge_actions.specs.Edges.{around_of, action_at}
use Rattle.edge_actions.specs.declared.views.EdgeView.{EdgeView}
use Rattle.edge_effects.specs.Effects.{IsAfter}
use Rattle.edge_effects.specs.declared.views.After.{After}
use Rattle.cell_placings.specs.CellLists.{is_in}
use Rattle.row_checks.specs.declared.traces.Traces.{Traces}
use Rattle.row_checks.specs.TracedCells.{may_copy, may_be_fresh, may_pend}
use Rattle.row_checks.specs.Passing.{all_below, is_kept, is_unlocked_in, passes_of, passes}
use Rattle.row_checks.specs.laws.Passed.{passes_is_checked}

-- a number that fails the test
pub fails_below : (test : ℕ → Bool) (k : ℕ) → test k ≡ false → (n : ℕ) → k < n → all_below test n ≡ false
fails_below test k fails zero lt = absurd (omega (arith, lt))
fails_below test k fails (suc n) lt = elim (cases_eq k n) [
  | inl here ↦ and_right (all_below test n) (test n) (ap test (sym here) ∙ fails)
  | inr there ↦ and_left (all_below test n) (test n) (fails_below test k fails n (omega (arith, lt, there)))
]

-- a cell at which the mutex may be pending, and which is not in the set
pub not_unlocked : (touched pending : List ℕ) (m cell p others : ℕ) → cell < length pending → p ≡ get_or pending cell p
    → others ≡ 65535 - 2 ^ m → (bit_and p others ≡ p → ⊥) → is_in touched cell ≡ false
    → is_unlocked_in touched pending m ≡ false
not_unlocked touched pending m cell p others lt at is pends other =
    let here : p ≡ get_or pending cell 0 = at ∙ get_or_default_zero pending cell p lt in
    let left : is_kept m (get_or pending cell 0) ≡ false = subst (λ q. is_kept m q ≡ false) here
    (ne_eqb (without p m) p (λ same. pends (ap (bit_and p) is ∙ same))) in
    fails_below (λ x. is_kept m (get_or pending x 0) || is_in touched x) cell
    (or_from (is_kept m (get_or pending cell 0)) (is_in touched cell) left other) (length pending) lt

-- no mutex has a number of 16 or more
pub no_mutex : (m : ℕ) → 16 ≤ m → 0 ≡ 65535 - 2 ^ m
no_mutex m le =
    let two : 0 < 2 = omega arith in
    let more : 2 ^ 16 ≤ 2 ^ m = pow-le-pow_right two le in
    omega (arith, more)

-- operations that neither reach cells nor change them pass
module _ (laid : LaidTree) (task held : ℕ) (answer : Bool) (touched carried looked : List ℕ) (traces : Traces)
    (targets : List ℕ) (store : Interferences) where
  pub others_pass : (op : Operation)
      → ((to address : ℕ) (scalar : Scalar) (place : Place) → op ≡ Op.Load to address scalar place → ⊥)
      → ((address value : ℕ) (scalar : Scalar) (into : Into) (place : Place)
      → op ≡ Op.Store address value scalar into place → ⊥)
      → ((object : ℕ) → op ≡ Op.Clear object → ⊥)
      → ((pointer : ℕ) (place : Place) → op ≡ Op.Usable pointer place → ⊥)
      → ((test : Test) → op ≡ Op.Assume test → ⊥)
      → ((mutex : ℕ) (place : Place) → op ≡ Op.Lock mutex place → ⊥)
      → ((mutex : ℕ) (place : Place) → op ≡ Op.Unlock mutex place → ⊥)
      → (op ≡ Op.Yield → ⊥)
      → ((to mutex : ℕ) (place : Place) → op ≡ Op.Probe to mutex place → ⊥)
      → true ≡ passes_of laid task held answer op touched carried looked traces targets store
  unfolding passes_of
  others_pass (Op.Load to address scalar place) load stores clear usable assume lock unlock yields probe =
      absurd (load to address scalar place refl)
  others_pass (Op.Store address value scalar into place) load stores clear usable assume lock unlock yields probe =
      absurd (stores address value scalar into place refl)
  others_pass (Op.Clear object) load stores clear usable assume lock unlock yields probe = absurd (clear object refl)
  others_pass (Op.Usable pointer place) load stores clear usable assume lock unlock yields probe =
      absurd (usable pointer place refl)
  others_pass (Op.Assume test) load stores clear usable assume lock unlock yields probe = absurd (assume test refl)
  others_pass (Op.Lock mutex place) load stores clear usable assume lock unlock yields probe =
      absurd (lock mutex place refl)
  others_pass (Op.Unlock mutex place) load stores clear usable assume lock unlock yields probe =
      absurd (unlock mutex place refl)
  others_pass Op.Yield load stores clear usable assume lock unlock yields probe = absurd (yields refl)
  others_pass (Op.Probe to mutex place) load stores clear usable assume lock unlock yields probe =
      absurd (probe to mutex place refl)
  others_pass op load stores clear usable assume lock unlock yields probe = refl

module _ (view : EdgeView) (touched carried looked : List ℕ) (traces : Traces) (given : After) (store : Interferences) where
  -- where the answer is that the edge passes, it was checked in each state in which this is its outcome
  pub checked_after : (r : Bool) → r ≡ passes view touched carried looked traces given.targets.items store → r ≡ true
      → (s : State) → IsAfter (around_of view) (action_at view) s store given
      → IsChecked (around_of view) (is_in touched) (is_in carried) (is_in looked) (may_copy traces) (may_be_fresh traces)
      (may_pend traces) (action_at view) s store
  checked_after r is so s after =
      passes_is_checked (laid_tree view.laid.now) view.task view.held touched carried looked traces (around_of view) refl refl
      (λ x. refl) view.tests_pointer view.answer view.operation s store
      (sym (ap (λ targets. passes view touched carried looked traces targets store) after.targets) ∙ sym is ∙ so)
