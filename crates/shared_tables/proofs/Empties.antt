-- The table with no entry.
use Rattle.std.proofs.Common.{◌≡◌, ℕ, [], Option, Some, None, sym, ap, subst, ◌∙◌, refl}
use Rattle.std.specs.Option.{option_map}
use Rattle.std.specs.Ordering.{nat_cmp}
use Rattle.std.specs.FinMap.{get, empty, entries, get-empty, entries-from_sorted}
use Rattle.tm_lattice.specs.Tables.{Table, IsEntry, IsTable, IsBelow, IsTableBelow, joined_at, joined_table, rounded_table, IsPast}
use Rattle.tm_lattice.specs.laws.TableLaws.{same_table, joined_at_none, get-joined_table, get-rounded_table}
use Rattle.tm_lattice.proofs.Edits.{empty_of}

module _ {V : Type 0} where
  pub entries_empty : entries {K = ℕ} {X = V} {R = nat_cmp} empty ≡ []
  entries_empty = ap entries (sym (empty_of [] tt refl)) ∙ entries-from_sorted nat_cmp [] tt

  pub past_empty : (from : ℕ) → IsPast {V = V} empty from
  past_empty from key le = get-empty nat_cmp key

  module _ (is_value nothing : V → Type 0) where
    pub empty_is : IsTable is_value nothing empty
    empty_is key = subst (IsEntry is_value nothing) (sym (get-empty nat_cmp key)) tt

  module _ (leq : V → V → Type 0) where
    pub empty_below : (t : Table V) → IsTableBelow leq empty t
    empty_below t key = subst (λ x. IsBelow leq x (get t key)) (sym (get-empty nat_cmp key)) tt

    none_below : (x : Option V) → IsBelow leq x None → x ≡ None
    none_below None le = refl
    none_below (Some v) le = absurd le

    pub below_empty : (t : Table V) → IsTableBelow leq t empty → t ≡ empty
    below_empty t le = same_table t empty (λ key. none_below (get t key) (subst (IsBelow leq (get t key)) (get-empty nat_cmp key) (le key)) ∙ sym (get-empty nat_cmp key))

    pub is_empty_below : (t : Table V) → t ≡ empty → IsTableBelow leq t empty
    is_empty_below t none = subst (λ u. IsTableBelow leq u empty) (sym none) (empty_below empty)

  module _ (join : V → V → V) where
    pub joined_empty_left : (t : Table V) → joined_table join empty t ≡ t
    joined_empty_left t = same_table _ _ (λ key. get-joined_table join empty t key ∙ ap (λ x. joined_at join x (get t key)) (get-empty nat_cmp key))

    pub joined_empty_right : (t : Table V) → joined_table join t empty ≡ t
    joined_empty_right t = same_table _ _ (λ key. get-joined_table join t empty key ∙ ap (joined_at join (get t key)) (get-empty nat_cmp key) ∙ joined_at_none join (get t key))

    pub join_none_left : (s t u : Table V) → empty ≡ s → u ≡ t → u ≡ joined_table join s t
    join_none_left s t u none same = same ∙ sym (joined_empty_left t) ∙ ap (λ x. joined_table join x t) none

    pub join_none_right : (s t u : Table V) → empty ≡ t → u ≡ s → u ≡ joined_table join s t
    join_none_right s t u none same = same ∙ sym (joined_empty_right s) ∙ ap (joined_table join s) none

    pub join_both : (s t s' t' u : Table V) → s' ≡ s → t' ≡ t → u ≡ joined_table join s' t' → u ≡ joined_table join s t
    join_both s t s' t' u one other both = both ∙ ap (λ x. joined_table join x t') one ∙ ap (joined_table join s) other

  pub rounded_empty : (round : V → V) → rounded_table round empty ≡ empty
  rounded_empty round = same_table _ _ (λ key. get-rounded_table round empty key ∙ ap (option_map round) (get-empty nat_cmp key) ∙ sym (get-empty nat_cmp key))
