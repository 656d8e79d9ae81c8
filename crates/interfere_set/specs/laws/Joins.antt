-- Joins of lists of values, and of the entries of tables.
use Rattle.std.specs.Prelude.{◌≡◌, ◌≢◌, ◌⊎◌, ℕ, List, [], ◌∷◌, Option, Some, None, T, refl}
use Rattle.std.proofs.Common.{sym, ap, subst, ◌∙◌, inl, inr, arith}
use Rattle.std.specs.Ordering.{nat_cmp}
use Rattle.std.proofs.lemmas.Bool.{cases_eq}
use Rattle.std.specs.FinMap.{find, is_sorted, get, entries, get-entries, entries_sorted, empty, get-empty}
use Rattle.tm_lattice.specs.laws.Keys.{AllAbove, AllAbove-rest, is_sorted-rest, find-here, find-there}
use Rattle.tm_lattice.specs.Tables.{Table, IsEntry, IsTable}
use Rattle.pointer_dom.specs.Values.{Values, IsValues, IsValuesBelow, joined_values, no_value}
use Rattle.pointer_dom.specs.laws.ValueLaws.{values_order, values_join, values_nothing}
use Rattle.pointer_dom.specs.OffsetSets.{OffsetSet, IsOffsetSet, HasNoOffset}
use Rattle.interfere_set.specs.Stores.{joined_onto, joined_all}

no_entries : (t : Table OffsetSet) → t ≡ empty → IsTable IsOffsetSet HasNoOffset t
no_entries t none key = subst (IsEntry IsOffsetSet HasNoOffset)
    (sym (ap (λ u. get u key) none ∙ get-empty nat_cmp key)) tt

pub none_is : IsValues no_value
none_is = no_entries empty refl

pub none_below : (v : Values) → IsValues v → IsValuesBelow no_value v
none_below v v-is = values_nothing.below no_value v none_is v-is refl

-- x is an element of the list
abbrev pub IsOf : {A : Type 0} → List A → A → Type 0
IsOf [] y = ⊥
IsOf (x ∷ xs) y = (y ≡ x) ⊎ IsOf xs y

module _ {A : Type 0} (part : A → Values) where
  pub onto_is : (v : Values) (xs : List A) → IsValues v → ((x : A) → IsOf xs x → IsValues (part x))
      → IsValues (joined_onto part v xs)
  onto_is v [] v-is is = v-is
  onto_is v (x ∷ xs) v-is is = onto_is (joined_values v (part x)) xs
      (values_join.value v (part x) v-is (is x (inl refl))) (λ y h. is y (inr h))

  pub onto_from : (v : Values) (xs : List A) → IsValues v → ((x : A) → IsOf xs x → IsValues (part x))
      → IsValuesBelow v (joined_onto part v xs)
  onto_from v [] v-is is = values_order.reflexive v v-is
  onto_from v (x ∷ xs) v-is is =
      let both = values_join.value v (part x) v-is (is x (inl refl)) in
      let rest : (y : A) → IsOf xs y → IsValues (part y) = λ y h. is y (inr h) in
      values_order.transitive v (joined_values v (part x)) (joined_onto part (joined_values v (part x)) xs) v-is both
      (onto_is (joined_values v (part x)) xs both rest)
      (values_join.left v (part x) v-is (is x (inl refl))) (onto_from (joined_values v (part x)) xs both rest)

  -- each part lies below the join
  pub onto_upper : (v : Values) (xs : List A) (y : A) → IsValues v → ((x : A) → IsOf xs x → IsValues (part x))
      → IsOf xs y → IsValuesBelow (part y) (joined_onto part v xs)
  onto_upper v [] y v-is is h = absurd h
  onto_upper v (x ∷ xs) y v-is is (inl here) =
      let both = values_join.value v (part x) v-is (is x (inl refl)) in
      let rest : (z : A) → IsOf xs z → IsValues (part z) = λ z k. is z (inr k) in
      subst (λ z. IsValuesBelow (part z) (joined_onto part (joined_values v (part x)) xs)) (sym here)
      (values_order.transitive (part x) (joined_values v (part x)) (joined_onto part (joined_values v (part x)) xs)
      (is x (inl refl)) both (onto_is (joined_values v (part x)) xs both rest)
      (values_join.right v (part x) v-is (is x (inl refl))) (onto_from (joined_values v (part x)) xs both rest))
  onto_upper v (x ∷ xs) y v-is is (inr there) =
      onto_upper (joined_values v (part x)) xs y (values_join.value v (part x) v-is (is x (inl refl)))
      (λ z k. is z (inr k)) there

  -- and the join below all that they lie below
  pub onto_least : (v : Values) (xs : List A) (u : Values) → IsValues v → IsValues u
      → ((x : A) → IsOf xs x → IsValues (part x)) → IsValuesBelow v u
      → ((x : A) → IsOf xs x → IsValuesBelow (part x) u) → IsValuesBelow (joined_onto part v xs) u
  onto_least v [] u v-is u-is is le each = le
  onto_least v (x ∷ xs) u v-is u-is is le each =
      onto_least (joined_values v (part x)) xs u (values_join.value v (part x) v-is (is x (inl refl))) u-is
      (λ y h. is y (inr h))
      (values_join.least v (part x) u v-is (is x (inl refl)) u-is le (each x (inl refl))) (λ y h. each y (inr h))

  pub all_is : (xs : List A) → ((x : A) → IsOf xs x → IsValues (part x)) → IsValues (joined_all part xs)
  all_is xs is = onto_is no_value xs none_is is

  pub all_upper : (xs : List A) (y : A) → ((x : A) → IsOf xs x → IsValues (part x)) → IsOf xs y
      → IsValuesBelow (part y) (joined_all part xs)
  all_upper xs y is h = onto_upper no_value xs y none_is is h

  pub all_least : (xs : List A) (u : Values) → IsValues u → ((x : A) → IsOf xs x → IsValues (part x))
      → ((x : A) → IsOf xs x → IsValuesBelow (part x) u) → IsValuesBelow (joined_all part xs) u
  all_least xs u u-is is each = onto_least no_value xs u none_is u-is is (none_below u u-is) each

module _ {V : Type 0} where
  above_of : (k : ℕ) (es : List (ℕ × V)) (e : ℕ × V) → AllAbove k es → IsOf es e → k ≢ e.0
  above_of k [] e above h = absurd h
  above_of k (d ∷ es) e above (inl here) = λ same. (let less = above.0 in let key : e.0 ≡ d.0 = ap
      (λ x. x.0) here in absurd (omega (arith, less, key, same)))
  above_of k (d ∷ es) e above (inr there) = above_of k es e above.1 there

  listed_of : (es : List (ℕ × V)) (k : ℕ) (v : V) → find nat_cmp k es ≡ Some v → IsOf es (k, v)
  listed_of [] k v found = absurd (let h : (let o : Option V = None in o ≡ Some v) = found in cc)
  listed_of (e ∷ es) k v found = elim (cases_eq k e.0) [
    | inl here ↦ let same : (let o : Option V = Some e.1 in o ≡ Some v) = sym (find-here k e es here)
        ∙ found in inl (let value : e.1 ≡ v = cc in λ i. (here i, sym value i))
    | inr there ↦ inr (listed_of es k v (sym (find-there k e es there) ∙ found))
  ]

  of_listed : (es : List (ℕ × V)) (e : ℕ × V) → T (is_sorted nat_cmp es) → IsOf es e → find nat_cmp e.0 es ≡ Some e.1
  of_listed [] e sorted h = absurd h
  of_listed (d ∷ es) e sorted (inl here) = find-here e.0 d es (ap (λ x. x.0) here)
      ∙ ap (λ (x : ℕ × V). Some x.1) (sym here)
  of_listed (d ∷ es) e sorted (inr there) =
      find-there e.0 d es (λ same. above_of d.0 es e (AllAbove-rest d es sorted) there (sym same))
      ∙ of_listed es e (is_sorted-rest d es sorted) there

  -- the entries of a table are what stands at its keys
  pub entry_of : (t : Table V) (k : ℕ) (v : V) → get t k ≡ Some v → IsOf (entries t) (k, v)
  entry_of t k v found = listed_of (entries t) k v (sym (get-entries t k) ∙ found)

  pub of_entry : (t : Table V) (e : ℕ × V) → IsOf (entries t) e → get t e.0 ≡ Some e.1
  of_entry t e h = get-entries t e.0 ∙ of_listed (entries t) e (entries_sorted t) h
