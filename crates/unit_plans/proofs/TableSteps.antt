-- A table of names one name further.
use Rattle.std.proofs.Common.{◌≡◌, ◌∙◌, ℕ, ◌+◌, suc, Bool, true, false, cond, refl, sym, ap, subst, arith, List, [], ◌∷◌, ◌++◌, length, Option, Some, None, zero-add, add-zero}
use Rattle.std.proofs.lemmas.Bool.Decides.{nat_tests}
use Rattle.std.specs.Prelude.{◌==◌, ◌&&◌, is_some}
use Rattle.std.specs.BTreeMap.{BTreeMap, get}
use Rattle.std.specs.List.{position_from}
use Rattle.std.specs.Ordering.{nat_cmp, bool_cmp, ordering_then, is_eq}
use Rattle.std.specs.Option.{option_or}
use Rattle.std.specs.declared.cmp.Ordering.{Ordering}
use Rattle.std.specs.declared.cmp.Ordering.TheVariants.{Less, Equal, Greater}
use Rattle.unit_plans.specs.Names.{first_named, is_name, is_same, is_same_space}
use Rattle.unit_plans.specs.declared.declarations.Local.{Local}
use Rattle.unit_plans.specs.reading.Tables.{IsTable, local_cmp}

position_by : {X : Type 0} (i : ℕ) (here : Option ℕ) (y : X) (xs : List X) (rest more : Option ℕ) (b : Bool)
    → more ≡ option_or rest here → cond b (Some i) more ≡ option_or (cond b (Some i) rest) here
position_by i here y xs rest more true h = refl
position_by i here y xs rest more false h = h

one_more : (i n : ℕ) → (i + 1) + n ≡ i + suc n
one_more i n = omega arith

-- the first at which a test passes, one element further
pub position_more : {X : Type 0} (t : X → Bool) (i : ℕ) (xs : List X) (x : X)
    → position_from t i (xs ++ x ∷ []) ≡ option_or (position_from t i xs) (cond (t x) (Some (i + length xs)) None)
position_more t i [] x = rw add-zero refl
position_more t i (y ∷ ys) x =
    position_by i (cond (t x) (Some (i + length (y ∷ ys))) None) y ys (position_from t (i + 1) ys)
    (position_from t (i + 1) (ys ++ x ∷ [])) (t y)
    (position_more t (i + 1) ys x
    ∙ ap (λ n. option_or (position_from t (i + 1) ys) (cond (t x) (Some n) None)) (one_more i (length ys)))

or_none : (o : Option ℕ) → option_or o None ≡ o
or_none None = refl
or_none (Some i) = refl

both : (a b : Bool) → (a && b) ≡ true → (a ≡ true) × (b ≡ true)
both true b h = (refl, h)
both false b h = absurd (cc)

then_eq : (a b : Ordering) → is_eq (ordering_then a b) ≡ (is_eq a && is_eq b)
then_eq Less b = refl
then_eq Equal b = refl
then_eq Greater b = refl

number_eq : (x y : ℕ) → is_eq (nat_cmp x y) ≡ (x == y)
number_eq x y = grind (arith, nat_tests)

space_eq : (a b : Bool) → is_eq (bool_cmp a b) ≡ is_same_space a b
space_eq false false = refl
space_eq false true = refl
space_eq true false = refl
space_eq true true = refl

four_eq : (a b c d : Ordering) → is_eq (ordering_then a (ordering_then b (ordering_then c d)))
    ≡ (is_eq a && is_eq b && (is_eq c && is_eq d))
four_eq Less b c d = refl
four_eq Greater b c d = refl
four_eq Equal Less c d = refl
four_eq Equal Greater c d = refl
four_eq Equal Equal c d = then_eq c d

-- names are equal in their order exactly where they are the same
pub same_by : (a b : Local) → is_eq (local_cmp a b) ≡ is_same a b
same_by a b =
    let here = number_eq a.unit b.unit in
    let space = space_eq a.is_tag b.is_tag in
    let from = number_eq a.name.start b.name.start in
    let size = number_eq a.name.length b.name.length in
    let all = four_eq (nat_cmp a.unit b.unit) (bool_cmp a.is_tag b.is_tag) (nat_cmp a.name.start b.name.start)
    (nat_cmp a.name.length b.name.length) in
    cc

space_is : (a b : Bool) → is_same_space a b ≡ true → a ≡ b
space_is true true h = refl
space_is true false h = absurd (cc)
space_is false true h = absurd (cc)
space_is false false h = refl

number_is : (x y : ℕ) → (x == y) ≡ true → x ≡ y
number_is x y h = grind (arith, nat_tests)

made_is : (u v : ℕ) (t w : Bool) (s r l m : ℕ) → u ≡ v → t ≡ w → s ≡ r → l ≡ m
    → ◌≡◌ {A = Local} (record { unit = u; is_tag = t; name = record { start = s; length = l } })
    (record { unit = v; is_tag = w; name = record { start = r; length = m } })
made_is u v t w s r l m unit space from size = cc

-- names that are the same are one
pub same_is : (a b : Local) → is_same a b ≡ true → a ≡ b
same_is a b h =
    let p = both ((a.unit == b.unit) && is_same_space a.is_tag b.is_tag)
    ((a.name.start == b.name.start) && (a.name.length == b.name.length)) h in
    let q = both (a.unit == b.unit) (is_same_space a.is_tag b.is_tag) p.0 in
    let r = both (a.name.start == b.name.start) (a.name.length == b.name.length) p.1 in
    let unit : a.unit ≡ b.unit = number_is a.unit b.unit q.0 in
    let space : a.is_tag ≡ b.is_tag = space_is a.is_tag b.is_tag q.1 in
    let from : a.name.start ≡ b.name.start = number_is a.name.start b.name.start r.0 in
    let size : a.name.length ≡ b.name.length = number_is a.name.length b.name.length r.1 in
    made_is a.unit b.unit a.is_tag b.is_tag a.name.start b.name.start a.name.length b.name.length unit space from size

-- no name is noted
pub IsTable-none : (m : BTreeMap Local ℕ) (names : List (Option Local)) → IsTable m names
    → IsTable m (names ++ None ∷ [])
IsTable-none m names is = record {
  same = λ q. is.same q ∙ sym (position_more (is_name q) 0 names None ∙ or_none (first_named q names));
}

known_before : (q k : Local) (names : List (Option Local)) (i : ℕ) (b : Bool) → is_same k q ≡ b
    → first_named k names ≡ Some i → option_or (first_named q names) (cond b (Some (0 + length names)) None) ≡ first_named q names
known_before q k names i true same found =
    subst (λ x. option_or (first_named x names) (Some (0 + length names)) ≡ first_named x names) (same_is k q same)
    (rw found refl)
known_before q k names i false same found = or_none (first_named q names)

some_is : (o : Option ℕ) → is_some o ≡ true → (i : ℕ) × (o ≡ Some i)
some_is None h = absurd (cc)
some_is (Some i) h = (i, refl)

none_is : (o : Option ℕ) → is_some o ≡ false → o ≡ None
none_is None h = refl
none_is (Some i) h = absurd (cc)

-- a name is noted that stands before
pub IsTable-known : (m : BTreeMap Local ℕ) (names : List (Option Local)) (k : Local) → IsTable m names
    → is_some (get local_cmp m k) ≡ true → IsTable m (names ++ Some k ∷ [])
IsTable-known m names k is found = record {
  same = λ q. is.same q ∙ sym (position_more (is_name q) 0 names (Some k)
      ∙ known_before q k names (some_is (get local_cmp m k) found).0 (is_same k q) refl
      (sym (is.same k) ∙ (some_is (get local_cmp m k) found).1));
}

new_here : (q k : Local) (names : List (Option Local)) (b : Bool) → is_same k q ≡ b → first_named k names ≡ None
    → cond b (Some (length names)) (first_named q names)
    ≡ option_or (first_named q names) (cond b (Some (0 + length names)) None)
new_here q k names true same absent =
    subst (λ x. Some (length names) ≡ option_or (first_named x names) (Some (0 + length names))) (same_is k q same)
    (rw (absent, zero-add) refl)
new_here q k names false same absent = sym (or_none (first_named q names))

-- a name is noted that does not
pub IsTable-new : (m n : BTreeMap Local ℕ) (names : List (Option Local)) (k : Local) → IsTable m names
    → is_some (get local_cmp m k) ≡ false
    → ((q : Local) → get local_cmp n q ≡ cond (is_eq (local_cmp k q)) (Some (length names)) (get local_cmp m q))
    → IsTable n (names ++ Some k ∷ [])
IsTable-new m n names k is absent updates = record {
  same = λ q. updates q ∙ ap (λ b. cond b (Some (length names)) (get local_cmp m q)) (same_by k q)
      ∙ ap (cond (is_same k q) (Some (length names))) (is.same q)
      ∙ new_here q k names (is_same k q) refl (sym (is.same k) ∙ none_is (get local_cmp m k) absent)
      ∙ sym (position_more (is_name q) 0 names (Some k));
}
