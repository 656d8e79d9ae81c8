-- What cells hold at first is joined, cell by cell.
use Rattle.std.proofs.Common.{◌≡◌, ◌∙◌, ℕ, suc, ◌+◌, ◌<◌, ◌≤◌, ◌==◌, Bool, true, false, cond, List, length, get_or, set}
use Rattle.std.proofs.Common.{replicate, refl, ap, sym, subst, arith, ℤ, Some, slice_get}
use Rattle.std.proofs.lemmas.List.{get_or-set_same, get_or-set_other, get_or-replicate, length-set, length-replicate}
use Rattle.std.proofs.lemmas.Bool.{eqb-true, eqb-false}
use Rattle.std.proofs.lemmas.Option.{slice_get-get_or}
use Rattle.strided_dom.specs.Progression.{IsInReach, Has, empty, single}
use Rattle.tm_laid.specs.tm_typed.declared.types.Scalar.{Scalar}
use Rattle.tm_laid.specs.tm_typed.declared.types.Scalar.TheVariants as Scalars
use Rattle.tm_laid.specs.declared.objects.Initial.{Initial}
use Rattle.tm_laid.specs.declared.objects.Initial.TheVariants as Initials
use Rattle.tm_laid.specs.Layouts.{LaidTree, abstract_at, cell_at}
use Rattle.body_systems.proofs.low.transfer_int.BitSets.{value_reaches}
use Rattle.pointer_dom.specs.Values.{Values, no_value, joined_values}
use Rattle.body_systems.specs.edge_actions.transfer_rows.StateForms.{only_numbers}
use Rattle.body_systems.specs.typed_values.Types.{IsOfType}
use Rattle.body_systems.specs.program_equations.Entries.{initial_value, initial_or_none, initial_at, initial_below}
use Rattle.entry_states.specs.Beginnings.{BeginsInTypes, AreInitialValues}
use Rattle.entry_states.specs.reading.Joining.{with_joined, AreJoinedBelow}

pub none_joined : (laid : LaidTree) (count : ℕ) (values : List Values) → count ≡ length laid.abstract_cells
    → values ≡ replicate count no_value → AreJoinedBelow laid 0 values
none_joined laid count values all e = record {
  count = ap length e ∙ length-replicate count no_value ∙ all;
  each = λ x within. ap (λ vs. get_or vs x no_value) e
      ∙ get_or-replicate count x no_value no_value (subst (λ n. x < n) (ap length e ∙ length-replicate count no_value) within);
}

found : (laid : LaidTree) (cell : ℕ) (i : Initial) → cell < length laid.initial → i ≡ get_or laid.initial cell i
    → slice_get laid.initial cell ≡ Some i
found laid cell i stands is = slice_get-get_or laid.initial cell i stands ∙ ap Some (sym is)

one_joined : (laid : LaidTree) (cell : ℕ) (i : Initial) (v : Values) (before : List Values)
    → cell < length laid.initial → i ≡ get_or laid.initial cell i → v ≡ initial_value laid i
    → AreJoinedBelow laid cell before
    → AreJoinedBelow laid (suc cell) (with_joined before (cell_at laid cell).abstract_cell v)
one_joined laid cell i v before stands is value h = record {
  count = length-set before here joined ∙ h.count;
  each = λ y within. at y (subst (λ n. y < n) (length-set before here joined) within) (here == y) refl;
} where
  here : ℕ
  here = (cell_at laid cell).abstract_cell

  joined : Values
  joined = joined_values (get_or before here no_value) v

  read : v ≡ initial_at laid cell
  read = value ∙ sym (ap (λ o. initial_or_none laid o) (found laid cell i stands is))

  at : (y : ℕ) → y < length before → (same : Bool) → (here == y) ≡ same
      → get_or (set before here joined) y no_value
      ≡ cond same (joined_values (initial_below laid cell y) (initial_at laid cell)) (initial_below laid cell y)
  at y within true e =
      let is : y ≡ here = sym (eqb-true here y e) in
      let lt : here < length before = subst (λ n. n < length before) is within in
      subst (λ n. get_or (set before here joined) n no_value ≡ joined_values (initial_below laid cell n) (initial_at laid cell)) (sym is)
      (get_or-set_same before here joined no_value lt
      ∙ ap (λ u. joined_values u v) (h.each here lt) ∙ ap (λ u. joined_values (initial_below laid cell here) u) read)
  at y within false e = get_or-set_other before here y joined no_value (λ s. eqb-false here y e (sym s)) ∙ h.each y within

-- the same, for the values that a step leaves
pub next_joined : (laid : LaidTree) (cell x : ℕ) (i : Initial) (v : Values) (before after : List Values)
    → cell < length laid.initial → i ≡ get_or laid.initial cell i → v ≡ initial_value laid i
    → x ≡ (cell_at laid cell).abstract_cell → after ≡ with_joined before x v → AreJoinedBelow laid cell before
    → AreJoinedBelow laid (cell + 1) after
next_joined laid cell x i v before after stands is value here joined h =
    let next : suc cell ≡ cell + 1 = omega arith in
    subst (λ n. AreJoinedBelow laid n after) next
    (subst (λ (vs : List Values). AreJoinedBelow laid (suc cell) vs) (sym (joined ∙ ap (λ n. with_joined before n v) here))
    (one_joined laid cell i v before stands is value h))

pub all_joined : (laid : LaidTree) (cell : ℕ) (values : List Values) → length laid.initial ≤ cell
    → cell ≤ length laid.initial → AreJoinedBelow laid cell values → AreInitialValues laid values
all_joined laid cell values least most h =
    let is : cell ≡ length laid.initial = omega (arith, least, most) in
    record { count = h.count; each = λ x within. h.each x within ∙ ap (λ n. initial_below laid n x) is }

-- a number that a cell of some type holds at first is within the reach of sets
reaches_by : (laid : LaidTree) (scalar : Scalar) (n : ℤ) → IsOfType laid scalar (only_numbers (single n)) → IsInReach n
unfolding Has
reaches_by laid (Scalars.Int t) n h = value_reaches t n (h.0.all n refl)
reaches_by laid (Scalars.Pointer class) n h = let clash : single n ≡ empty = h.0 in absurd cc

pub reaches : (laid : LaidTree) (cell : ℕ) (i : Initial) (n : ℤ) → BeginsInTypes laid → cell < length laid.initial
    → i ≡ get_or laid.initial cell i → i ≡ Initials.Number n → IsInReach n
reaches laid cell i n h stands at is =
    let a = abstract_at laid (cell_at laid cell).abstract_cell in
    reaches_by laid a.scalar n
    (subst (λ o. IsOfType laid a.scalar (initial_or_none laid o)) (found laid cell i stands at ∙ ap Some is) (h.initial cell stands))
