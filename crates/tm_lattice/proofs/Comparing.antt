-- How far two lists of entries have been compared.
use Rattle.std.proofs.Common.{◌≡◌, ◌↔◌, ℕ, zero, suc, ◌+◌, ◌<◌, List, [], ◌∷◌, get_or, drop, Some, None, IsTrue, true, false, T, refl, sym, ap, subst, ◌∙◌, arith, add-one}
use Rattle.std.specs.declared.cmp.Ordering.TheVariants.{Less, Equal, Greater}
use Rattle.std.specs.Ordering.{nat_cmp}
use Rattle.std.specs.FinMap.{find, is_sorted, get, from_sorted, get-from_sorted}
use Rattle.std.proofs.lemmas.Bool.{false≢true}
use Rattle.std.proofs.lemmas.Bool.Decides.{nat_tests}
use Rattle.tm_lattice.specs.laws.Keys.{AllAbove, AllAbove-rest, AllAbove-lower, is_sorted-rest}
use Rattle.tm_lattice.specs.laws.EntriesBelow.{AreBelow, not_before, not_empty, both_first, both_rest, both_whole, later_rest, later_whole}
use Rattle.tm_lattice.specs.Tables.{Table, IsBelow, IsTableBelow}
use Rattle.tm_lattice.specs.reading.Listed.{order_of_first}

-- two facts that hold together or not at all
pub record AreSame (P Q : Type 0) : Type 0 where
  pub onward : P → Q
  pub back : Q → P

pub same_trans : {P Q R : Type 0} → AreSame P Q → AreSame Q R → AreSame P R
same_trans p q = record { onward = λ x. q.onward (p.onward x); back = λ z. p.back (q.back z) }

module _ {V : Type 0} where
  drop_more : (i : ℕ) (es : List (ℕ × V)) → drop 1 (drop i es) ≡ drop (i + 1) es
  drop_more zero es = let one : 1 ≡ zero + 1 = omega arith in ap (λ n. drop n es) one
  drop_more (suc i) [] = rw add-one refl
  drop_more (suc i) (e ∷ es) = let more : suc (i + 1) ≡ suc i + 1 = omega arith in drop_more i es ∙ ap (λ n. drop n (e ∷ es)) more

  first_there : (i : ℕ) (es : List (ℕ × V)) (d : ℕ × V) → get_or (drop i es) 0 d ≡ get_or es i d
  first_there zero es d = refl
  first_there (suc i) [] d = refl
  first_there (suc i) (e ∷ es) d = first_there i es d

  sorted_from : (i : ℕ) (es : List (ℕ × V)) → T (is_sorted nat_cmp es) → T (is_sorted nat_cmp (drop i es))
  sorted_from zero es sorted = sorted
  sorted_from (suc i) [] sorted = sorted
  sorted_from (suc i) (e ∷ es) sorted = sorted_from i es (is_sorted-rest e es sorted)

key_order : (k l : ℕ) → Some (nat_cmp k l) ≡ Some Less → k < l
key_order k l is = let less : nat_cmp k l ≡ Less = cc in grind (arith, nat_tests)

key_same : (k l : ℕ) → Some (nat_cmp k l) ≡ Some Equal → k ≡ l
key_same k l is = let equal : nat_cmp k l ≡ Equal = cc in grind (arith, nat_tests)

key_after : (k l : ℕ) → Some (nat_cmp k l) ≡ Some Greater → l < k
key_after k l is = let greater : nat_cmp k l ≡ Greater = cc in grind (arith, nat_tests)

module _ {V : Type 0} (leq : V → V → Type 0) where
  less_first : (one other : List (ℕ × V)) → T (is_sorted nat_cmp other) → order_of_first one other ≡ Some Less → AreBelow leq one other → ⊥
  less_first [] [] sorted order below = cc
  less_first [] (b ∷ other) sorted order below = cc
  less_first (a ∷ one) [] sorted order below = not_empty leq a one below
  less_first (a ∷ one) (b ∷ other) sorted order below = not_before leq a b one other sorted below (key_order a.0 b.0 order)

  greater_first : (one other : List (ℕ × V)) → T (is_sorted nat_cmp one) → order_of_first one other ≡ Some Greater → AreSame (AreBelow leq one other) (AreBelow leq one (drop 1 other))
  greater_first [] [] sorted order = cc
  greater_first [] (b ∷ other) sorted order = record { onward = later_rest leq [] other b tt; back = later_whole leq [] other b tt }
  greater_first (a ∷ one) [] sorted order = cc
  greater_first (a ∷ one) (b ∷ other) sorted order =
      let lt = key_after a.0 b.0 order in
      let above : AllAbove b.0 (a ∷ one) = (lt, AllAbove-lower b.0 a.0 one (omega arith) (AllAbove-rest a one sorted)) in
      record { onward = later_rest leq (a ∷ one) other b above; back = later_whole leq (a ∷ one) other b above }

  equal_first : (one other : List (ℕ × V)) (a b : ℕ × V) → T (is_sorted nat_cmp one) → order_of_first one other ≡ Some Equal → a ≡ get_or one 0 a → b ≡ get_or other 0 b
      → AreSame (AreBelow leq one other) (leq a.1 b.1 × AreBelow leq (drop 1 one) (drop 1 other))
  equal_first [] [] a b sorted order is is' = cc
  equal_first [] (g ∷ other) a b sorted order is is' = cc
  equal_first (f ∷ one) [] a b sorted order is is' = cc
  equal_first (f ∷ one) (g ∷ other) a b sorted order is is' =
      let same = key_same f.0 g.0 order in
      subst (λ (x : ℕ × V). AreSame (AreBelow leq (f ∷ one) (g ∷ other)) (leq x.1 b.1 × AreBelow leq one other)) (sym is)
      (subst (λ (x : ℕ × V). AreSame (AreBelow leq (f ∷ one) (g ∷ other)) (leq f.1 x.1 × AreBelow leq one other)) (sym is') (record {
        onward = λ below. (both_first leq f g one other same below, both_rest leq f g one other sorted same below);
        back = λ parts. both_whole leq f g one other same parts.0 parts.1;
      }))

  nothing_left : (one other : List (ℕ × V)) → order_of_first one other ≡ None → AreBelow leq one other
  nothing_left [] other order = λ key. tt
  nothing_left (a ∷ one) [] order = cc
  nothing_left (a ∷ one) (b ∷ other) order = cc

  -- from these places on the answer is that for the whole lists
  abbrev pub IsOpen : List (ℕ × V) → List (ℕ × V) → ℕ → ℕ → Type 0
  IsOpen one other i j = AreSame (AreBelow leq one other) (AreBelow leq (drop i one) (drop j other))

  module _ (one other : List (ℕ × V)) (i j : ℕ) (sorted : T (is_sorted nat_cmp one)) (sorted' : T (is_sorted nat_cmp other)) where
    abbrev Open : Type 0
    Open = IsOpen one other i j

    pub stop_less : order_of_first (drop i one) (drop j other) ≡ Some Less → Open → AreBelow leq one other → ⊥
    stop_less order so_far below = less_first (drop i one) (drop j other) (sorted_from j other sorted') order (so_far.onward below)

    pub go_greater : order_of_first (drop i one) (drop j other) ≡ Some Greater → Open → AreSame (AreBelow leq one other) (AreBelow leq (drop i one) (drop (j + 1) other))
    go_greater order so_far = same_trans so_far (subst (λ es. AreSame (AreBelow leq (drop i one) (drop j other)) (AreBelow leq (drop i one) es)) (drop_more j other)
        (greater_first (drop i one) (drop j other) (sorted_from i one sorted) order))

    both_there : (a b : ℕ × V) → order_of_first (drop i one) (drop j other) ≡ Some Equal → a ≡ get_or one i a → b ≡ get_or other j b → Open
        → AreSame (AreBelow leq one other) (leq a.1 b.1 × AreBelow leq (drop 1 (drop i one)) (drop 1 (drop j other)))
    both_there a b order is is' so_far =
        same_trans so_far (equal_first (drop i one) (drop j other) a b (sorted_from i one sorted) order (is ∙ sym (first_there i one a)) (is' ∙ sym (first_there j other b)))

    pub go_equal : (a b : ℕ × V) → order_of_first (drop i one) (drop j other) ≡ Some Equal → a ≡ get_or one i a → b ≡ get_or other j b → Open → leq a.1 b.1
        → AreSame (AreBelow leq one other) (AreBelow leq (drop (i + 1) one) (drop (j + 1) other))
    go_equal a b order is is' so_far le =
        let parts = both_there a b order is is' so_far in
        let here : AreSame (AreBelow leq one other) (AreBelow leq (drop 1 (drop i one)) (drop 1 (drop j other))) =
        record { onward = λ below. (parts.onward below).1; back = λ rest. parts.back (le, rest) } in
        subst (λ es. AreSame (AreBelow leq one other) (AreBelow leq es (drop (j + 1) other))) (drop_more i one)
        (subst (λ es. AreSame (AreBelow leq one other) (AreBelow leq (drop 1 (drop i one)) es)) (drop_more j other) here)

    pub stop_equal : (a b : ℕ × V) → order_of_first (drop i one) (drop j other) ≡ Some Equal → a ≡ get_or one i a → b ≡ get_or other j b → Open
        → (leq a.1 b.1 → ⊥) → AreBelow leq one other → ⊥
    stop_equal a b order is is' so_far over below = over ((both_there a b order is is' so_far).onward below).0

    pub all_compared : order_of_first (drop i one) (drop j other) ≡ None → Open → AreBelow leq one other
    all_compared order so_far = so_far.back (nothing_left (drop i one) (drop j other) order)

  -- entries that are equal compare alike
  pub read_leq : (a b x y : ℕ × V) → a ≡ x → b ≡ y → leq a.1 b.1 → leq x.1 y.1
  read_leq a b x y is is' le = subst (λ (e : ℕ × V). leq e.1 y.1) is (subst (λ (e : ℕ × V). leq a.1 e.1) is' le)

  -- lists, and the tables that they are
  module _ (one other one' other' : List (ℕ × V)) (s t : Table V) (reads : one ≡ one') (reads' : other ≡ other')
      (sorted : T (is_sorted nat_cmp one')) (sorted' : T (is_sorted nat_cmp other')) (is : from_sorted one' ≡ s) (is' : from_sorted other' ≡ t) where
    found : (key : ℕ) → find nat_cmp key one ≡ get s key
    found key = ap (find nat_cmp key) reads ∙ sym (get-from_sorted nat_cmp one' key sorted) ∙ ap (λ u. get u key) is

    found' : (key : ℕ) → find nat_cmp key other ≡ get t key
    found' key = ap (find nat_cmp key) reads' ∙ sym (get-from_sorted nat_cmp other' key sorted') ∙ ap (λ u. get u key) is'

    to_tables : AreBelow leq one other → IsTableBelow leq s t
    to_tables below key = subst (λ x. IsBelow leq x (get t key)) (found key) (subst (IsBelow leq (find nat_cmp key one)) (found' key) (below key))

    to_lists : IsTableBelow leq s t → AreBelow leq one other
    to_lists below key = subst (λ x. IsBelow leq x (find nat_cmp key other)) (sym (found key)) (subst (IsBelow leq (get s key)) (sym (found' key)) (below key))

    pub told_no : (AreBelow leq one other → ⊥) → IsTrue false ↔ IsTableBelow leq s t
    told_no over = (λ no. absurd (false≢true no), λ below. absurd (over (to_lists below)))

    pub told_yes : AreBelow leq one other → IsTrue true ↔ IsTableBelow leq s t
    told_yes below = (λ yes. to_tables below, λ below'. refl)
