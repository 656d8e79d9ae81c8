-- The list that the merge of two lists of entries makes, step by step, and what it has at each key.
use Rattle.std.proofs.Common.{◌≡◌, ℕ, zero, suc, ◌+◌, ◌-◌, ◌<◌, ◌≤◌, List, [], ◌∷◌, ◌++◌, length, get_or, drop, Option, Some, None, Result, Ok, IfOk, T, refl, sym, ap, subst, ◌∙◌, ◌⊎◌, inl, inr, arith, append_assoc, append-nil, add-one, length-drop, get_or-drop}
use Rattle.std.specs.Ordering.{nat_cmp}
use Rattle.std.specs.declared.cmp.Ordering.TheVariants.{Less, Equal, Greater}
use Rattle.std.proofs.lemmas.Bool.{cases_eq, cases_order}
use Rattle.std.proofs.lemmas.Bool.Decides.{nat_tests}
use Rattle.std.specs.FinMap.{find, is_sorted}
use Rattle.std.specs.FinMap.Entries.{by_order}
use Rattle.tm_lattice.specs.laws.Keys.{AllAbove, AllAbove-rest, AllAbove-lower, is_sorted-rest, is_sorted-cons, find-here, find-there, find_below}
use Rattle.tm_lattice.specs.reading.Listed.{order_of_first}
use Rattle.tm_lattice.specs.Tables.{joined_at}
use Rattle.tm_lattice.specs.laws.TableLaws.{joined_at_none}

pub cmp_less : (k l : ℕ) → k < l → nat_cmp k l ≡ Less
cmp_less k l lt = grind (arith, nat_tests)

pub cmp_equal : (k l : ℕ) → k ≡ l → nat_cmp k l ≡ Equal
cmp_equal k l same = grind (arith, nat_tests)

pub cmp_greater : (k l : ℕ) → l < k → nat_cmp k l ≡ Greater
cmp_greater k l gt = grind (arith, nat_tests)

-- the value that has come is the one that was asked for
pub came : {V E : Type 0} (value : Result V E) (v w : V) → value ≡ Ok v → IfOk value (λ x. x ≡ w) → v ≡ w
came value v w is asked = subst (λ r. IfOk r (λ x. x ≡ w)) is asked

module _ {V : Type 0} (join : V → V → V) where
  -- the entries from a on, merged with other, where rest merges those after a
  abbrev merged_from : ℕ × V → List (ℕ × V) → (List (ℕ × V) → List (ℕ × V)) → List (ℕ × V) → List (ℕ × V)
  merged_from a one rest [] = a ∷ one
  merged_from a one rest (b ∷ other) = by_order (nat_cmp a.0 b.0) (a ∷ rest (b ∷ other)) ((a.0, join a.1 b.1) ∷ rest other) (b ∷ merged_from a one rest other)

  abbrev pub merged : List (ℕ × V) → List (ℕ × V) → List (ℕ × V)
  merged [] other = other
  merged (a ∷ one) other = merged_from a one (merged one) other

  merged_none : (one : List (ℕ × V)) → merged one [] ≡ one
  merged_none [] = refl
  merged_none (a ∷ one) = refl

  pub merged_end : (one other : List (ℕ × V)) → order_of_first one other ≡ None → merged one other ≡ []
  merged_end [] [] order = refl
  merged_end [] (b ∷ other) order = cc
  merged_end (a ∷ one) [] order = cc
  merged_end (a ∷ one) (b ∷ other) order = cc

  pub merged_less : (one other : List (ℕ × V)) (a : ℕ × V) → order_of_first one other ≡ Some Less → a ≡ get_or one 0 a → merged one other ≡ a ∷ merged (drop 1 one) other
  merged_less [] [] a order is = cc
  merged_less [] (b ∷ other) a order is = cc
  merged_less (f ∷ one) [] a order is = rw is (ap (λ es. f ∷ es) (sym (merged_none one)))
  merged_less (f ∷ one) (b ∷ other) a order is = let less : nat_cmp f.0 b.0 ≡ Less = cc in rw (less, is) refl

  pub merged_equal : (one other : List (ℕ × V)) (a b : ℕ × V) → order_of_first one other ≡ Some Equal → a ≡ get_or one 0 a → b ≡ get_or other 0 b
      → merged one other ≡ (a.0, join a.1 b.1) ∷ merged (drop 1 one) (drop 1 other)
  merged_equal [] [] a b order is is' = cc
  merged_equal [] (g ∷ other) a b order is is' = cc
  merged_equal (f ∷ one) [] a b order is is' = cc
  merged_equal (f ∷ one) (g ∷ other) a b order is is' = let equal : nat_cmp f.0 g.0 ≡ Equal = cc in rw (equal, is, is') refl

  pub merged_greater : (one other : List (ℕ × V)) (b : ℕ × V) → order_of_first one other ≡ Some Greater → b ≡ get_or other 0 b → merged one other ≡ b ∷ merged one (drop 1 other)
  merged_greater [] [] b order is = cc
  merged_greater [] (g ∷ other) b order is = rw is refl
  merged_greater (f ∷ one) [] b order is = cc
  merged_greater (f ∷ one) (g ∷ other) b order is = let greater : nat_cmp f.0 g.0 ≡ Greater = cc in rw (greater, is) refl

  -- the same at places i and j of two lists
  drop_more : (i : ℕ) (es : List (ℕ × V)) → drop 1 (drop i es) ≡ drop (i + 1) es
  drop_more zero es = let one : 1 ≡ zero + 1 = omega arith in ap (λ n. drop n es) one
  drop_more (suc i) [] = rw add-one refl
  drop_more (suc i) (e ∷ es) = let more : suc (i + 1) ≡ suc i + 1 = omega arith in drop_more i es ∙ ap (λ n. drop n (e ∷ es)) more

  first_there : (i : ℕ) (es : List (ℕ × V)) (d : ℕ × V) → get_or (drop i es) 0 d ≡ get_or es i d
  first_there i es d = let here : i + 0 ≡ i = omega arith in get_or-drop i es 0 d ∙ ap (λ n. get_or es n d) here

  there : (i : ℕ) (es : List (ℕ × V)) → 0 < length (drop i es) → i < length es
  there i es some = omega (arith, length-drop i es)

  one_there : (one other : List (ℕ × V)) → (order_of_first one other ≡ Some Less) ⊎ (order_of_first one other ≡ Some Equal) → 0 < length one
  one_there [] [] order = elim order [ inl e ↦ cc | inr e ↦ cc ]
  one_there [] (b ∷ other) order = elim order [ inl e ↦ cc | inr e ↦ cc ]
  one_there (a ∷ one) other order = omega arith

  other_there : (one other : List (ℕ × V)) → (order_of_first one other ≡ Some Greater) ⊎ (order_of_first one other ≡ Some Equal) → 0 < length other
  other_there [] [] order = elim order [ inl e ↦ cc | inr e ↦ cc ]
  other_there (a ∷ one) [] order = elim order [ inl e ↦ cc | inr e ↦ cc ]
  other_there one (b ∷ other) order = omega arith

  module _ (one other : List (ℕ × V)) (i j : ℕ) where
    pub less_within : order_of_first (drop i one) (drop j other) ≡ Some Less → i < length one
    less_within order = there i one (one_there (drop i one) (drop j other) (inl order))

    pub equal_within : order_of_first (drop i one) (drop j other) ≡ Some Equal → (i < length one) × (j < length other)
    equal_within order = (there i one (one_there (drop i one) (drop j other) (inr order)), there j other (other_there (drop i one) (drop j other) (inr order)))

    pub greater_within : order_of_first (drop i one) (drop j other) ≡ Some Greater → j < length other
    greater_within order = there j other (other_there (drop i one) (drop j other) (inl order))

    pub less_at : order_of_first (drop i one) (drop j other) ≡ Some Less → i ≤ length one
    less_at order = omega (arith, less_within order)

    pub equal_at : order_of_first (drop i one) (drop j other) ≡ Some Equal → (i ≤ length one) × (j ≤ length other)
    equal_at order = let within = equal_within order in (omega (arith, within.0), omega (arith, within.1))

    pub greater_at : order_of_first (drop i one) (drop j other) ≡ Some Greater → j ≤ length other
    greater_at order = omega (arith, greater_within order)

    -- fewer entries are left
    pub less_left : order_of_first (drop i one) (drop j other) ≡ Some Less
        → (length one - (i + 1)) + (length other - j) < (length one - i) + (length other - j)
    less_left order = omega (arith, less_within order)

    pub equal_left : order_of_first (drop i one) (drop j other) ≡ Some Equal
        → (length one - (i + 1)) + (length other - (j + 1)) < (length one - i) + (length other - j)
    equal_left order = let within = equal_within order in omega (arith, within.0, within.1)

    pub greater_left : order_of_first (drop i one) (drop j other) ≡ Some Greater
        → (length one - i) + (length other - (j + 1)) < (length one - i) + (length other - j)
    greater_left order = omega (arith, greater_within order)

    pub step_less : (a : ℕ × V) → order_of_first (drop i one) (drop j other) ≡ Some Less → a ≡ get_or one i a
        → merged (drop i one) (drop j other) ≡ a ∷ merged (drop (i + 1) one) (drop j other)
    step_less a order is = merged_less (drop i one) (drop j other) a order (is ∙ sym (first_there i one a)) ∙ ap (λ es. a ∷ merged es (drop j other)) (drop_more i one)

    pub step_equal : (a b : ℕ × V) → order_of_first (drop i one) (drop j other) ≡ Some Equal → a ≡ get_or one i a → b ≡ get_or other j b
        → merged (drop i one) (drop j other) ≡ (a.0, join a.1 b.1) ∷ merged (drop (i + 1) one) (drop (j + 1) other)
    step_equal a b order is is' =
        merged_equal (drop i one) (drop j other) a b order (is ∙ sym (first_there i one a)) (is' ∙ sym (first_there j other b))
        ∙ ap (λ es. (a.0, join a.1 b.1) ∷ merged es (drop 1 (drop j other))) (drop_more i one)
        ∙ ap (λ es. (a.0, join a.1 b.1) ∷ merged (drop (i + 1) one) es) (drop_more j other)

    pub step_greater : (b : ℕ × V) → order_of_first (drop i one) (drop j other) ≡ Some Greater → b ≡ get_or other j b
        → merged (drop i one) (drop j other) ≡ b ∷ merged (drop i one) (drop (j + 1) other)
    step_greater b order is = merged_greater (drop i one) (drop j other) b order (is ∙ sym (first_there j other b)) ∙ ap (λ es. b ∷ merged (drop i one) es) (drop_more j other)

  -- an entry pushed is the first of what was to come
  pub pushed : (both rest rest' whole : List (ℕ × V)) (e : ℕ × V) → both ++ rest ≡ whole → rest ≡ e ∷ rest' → (both ++ e ∷ []) ++ rest' ≡ whole
  pushed both rest rest' whole e so_far step = append_assoc both (e ∷ []) rest' ∙ ap (λ es. both ++ es) (sym step) ∙ so_far

  pub all_pushed : (both rest whole : List (ℕ × V)) → both ++ rest ≡ whole → rest ≡ [] → both ≡ whole
  all_pushed both rest whole so_far none = sym (append-nil both) ∙ ap (λ es. both ++ es) (sym none) ∙ so_far

  above_from : (k : ℕ) (a : ℕ × V) (one : List (ℕ × V)) (rest : List (ℕ × V) → List (ℕ × V)) → AllAbove k (a ∷ one)
      → ((es : List (ℕ × V)) → AllAbove k es → AllAbove k (rest es)) → (other : List (ℕ × V)) → AllAbove k other → AllAbove k (merged_from a one rest other)
  above_from k a one rest above on [] above' = above
  above_from k a one rest above on (b ∷ other) above' =
      elim (nat_cmp a.0 b.0) as (λ o. AllAbove k (by_order o (a ∷ rest (b ∷ other)) ((a.0, join a.1 b.1) ∷ rest other) (b ∷ merged_from a one rest other))) [
        | Less ↦ (above.0, on (b ∷ other) above')
        | Equal ↦ (above.0, on other above'.1)
        | Greater ↦ (above'.0, above_from k a one rest above on other above'.1)
      ]

  above_merged : (k : ℕ) (one other : List (ℕ × V)) → AllAbove k one → AllAbove k other → AllAbove k (merged one other)
  above_merged k [] other above above' = above'
  above_merged k (a ∷ one) other above above' = above_from k a one (merged one) above (λ es. above_merged k one es above.1) other above'

  sorted_from : (a : ℕ × V) (one : List (ℕ × V)) → T (is_sorted nat_cmp (a ∷ one)) → ((es : List (ℕ × V)) → T (is_sorted nat_cmp es) → T (is_sorted nat_cmp (merged one es)))
      → (other : List (ℕ × V)) → T (is_sorted nat_cmp other) → T (is_sorted nat_cmp (merged_from a one (merged one) other))
  sorted_from a one sorted on [] sorted' = sorted
  sorted_from a one sorted on (b ∷ other) sorted' =
      let above = AllAbove-rest a one sorted in
      let above' = AllAbove-rest b other sorted' in
      let rest' : T (is_sorted nat_cmp other) = is_sorted-rest b other sorted' in
      elim (cases_order a.0 b.0) [
        | inl same ↦
            rw (cmp_equal a.0 b.0 same)
            (is_sorted-cons (a.0, join a.1 b.1) (merged one other) (above_merged a.0 one other above (AllAbove-lower a.0 b.0 other (omega arith) above')) (on other rest'))
        | inr differ ↦ elim differ [
          | inl lt ↦
              rw (cmp_less a.0 b.0 lt)
              (is_sorted-cons a (merged one (b ∷ other)) (above_merged a.0 one (b ∷ other) above (lt, AllAbove-lower a.0 b.0 other (omega arith) above')) (on (b ∷ other) sorted'))
          | inr gt ↦
              rw (cmp_greater a.0 b.0 gt)
              (is_sorted-cons b (merged_from a one (merged one) other) (above_merged b.0 (a ∷ one) other (gt, AllAbove-lower b.0 a.0 one (omega arith) above) above') (sorted_from a one sorted on other rest'))
        ]
      ]

  pub sorted_merged : (one other : List (ℕ × V)) → T (is_sorted nat_cmp one) → T (is_sorted nat_cmp other) → T (is_sorted nat_cmp (merged one other))
  sorted_merged [] other sorted sorted' = sorted'
  sorted_merged (a ∷ one) other sorted sorted' = sorted_from a one sorted (λ es. sorted_merged one es (is_sorted-rest a one sorted)) other sorted'

  find_from : (key : ℕ) (a : ℕ × V) (one : List (ℕ × V)) → T (is_sorted nat_cmp (a ∷ one))
      → ((es : List (ℕ × V)) → T (is_sorted nat_cmp es) → find nat_cmp key (merged one es) ≡ joined_at join (find nat_cmp key one) (find nat_cmp key es))
      → (other : List (ℕ × V)) → T (is_sorted nat_cmp other)
      → find nat_cmp key (merged_from a one (merged one) other) ≡ joined_at join (find nat_cmp key (a ∷ one)) (find nat_cmp key other)
  find_from key a one sorted on [] sorted' = sym (joined_at_none join (find nat_cmp key (a ∷ one)))
  find_from key a one sorted on (b ∷ other) sorted' =
      let above = AllAbove-rest a one sorted in
      let above' = AllAbove-rest b other sorted' in
      let rest' : T (is_sorted nat_cmp other) = is_sorted-rest b other sorted' in
      let both = λ (x y : Option V). joined_at join x y in
      elim (cases_order a.0 b.0) [
        | inl same ↦ rw (cmp_equal a.0 b.0 same) (elim (cases_eq key a.0) [
          | inl here ↦
              find-here key (a.0, join a.1 b.1) (merged one other) here
              ∙ sym (ap (both (Some a.1)) (find-here key b other (here ∙ same)))
              ∙ ap (λ x. both x (find nat_cmp key (b ∷ other))) (sym (find-here key a one here))
          | inr there ↦
              find-there key (a.0, join a.1 b.1) (merged one other) there
              ∙ on other rest'
              ∙ sym (ap (both (find nat_cmp key one)) (find-there key b other (λ e. there (e ∙ sym same))))
              ∙ ap (λ x. both x (find nat_cmp key (b ∷ other))) (sym (find-there key a one there))
        ])
        | inr differ ↦ elim differ [
          | inl lt ↦ rw (cmp_less a.0 b.0 lt) (elim (cases_eq key a.0) [
            | inl here ↦
                let none : AllAbove key (b ∷ other) = (omega arith, AllAbove-lower key b.0 other (omega arith) above') in
                find-here key a (merged one (b ∷ other)) here
                ∙ sym (ap (both (Some a.1)) (find_below key (b ∷ other) none))
                ∙ ap (λ x. both x (find nat_cmp key (b ∷ other))) (sym (find-here key a one here))
            | inr there ↦
                find-there key a (merged one (b ∷ other)) there
                ∙ on (b ∷ other) sorted'
                ∙ ap (λ x. both x (find nat_cmp key (b ∷ other))) (sym (find-there key a one there))
          ])
          | inr gt ↦ rw (cmp_greater a.0 b.0 gt) (elim (cases_eq key b.0) [
            | inl here ↦
                let none : AllAbove key (a ∷ one) = (omega arith, AllAbove-lower key a.0 one (omega arith) above) in
                find-here key b (merged_from a one (merged one) other) here
                ∙ sym (ap (both None) (find-here key b other here))
                ∙ ap (λ x. both x (find nat_cmp key (b ∷ other))) (sym (find_below key (a ∷ one) none))
            | inr there ↦
                find-there key b (merged_from a one (merged one) other) there
                ∙ find_from key a one sorted on other rest'
                ∙ ap (both (find nat_cmp key (a ∷ one))) (sym (find-there key b other there))
          ])
        ]
      ]

  pub find_merged : (key : ℕ) (one other : List (ℕ × V)) → T (is_sorted nat_cmp one) → T (is_sorted nat_cmp other)
      → find nat_cmp key (merged one other) ≡ joined_at join (find nat_cmp key one) (find nat_cmp key other)
  find_merged key [] other sorted sorted' = refl
  find_merged key (a ∷ one) other sorted sorted' = find_from key a one sorted (λ es. find_merged key one es (is_sorted-rest a one sorted)) other sorted'
