-- Numbers have thresholds, where lengths of arrays are in the reach of strided sets.
use Rattle.std.specs.Prelude.{◌≡◌, ◌⊎◌, ℕ, ◌^◌, ℤ, pos, neg_ℤ, ◌≤ℤ◌, ◌<ℤ◌, ◌+ℤ◌, ◌-ℤ◌, ◌||◌, Bool, true, false, cond}
use Rattle.std.specs.Prelude.{List, [], ◌∷◌, ◌++◌, All}
use Rattle.std.specs.List.{flat_map, AllByRecursion}
use Rattle.std.specs.Ordering.{int_cmp, MatchOrdering}
use Rattle.std.specs.declared.cmp.Ordering.{Ordering}
use Rattle.std.specs.declared.cmp.Ordering.TheVariants.{Less, Equal, Greater}
use Rattle.std.specs.Cmp.{int_ranks}
use Rattle.std.proofs.Common.{refl, inl, inr, arith}
use Rattle.std.proofs.lemmas.Int.{ints}
use Rattle.std.proofs.lemmas.List.Elements.{All-nil, All-from_recursion, All-append, All-head, All-tail}
use Rattle.std.proofs.lemmas.List.Elements.{All-contains}
use Rattle.tm_terms.specs.tm_cint.declared.int_types.IntType.{IntType}
use Rattle.tm_terms.specs.tm_cint.declared.int_types.IntType.TheVariants as Ints
use Rattle.tm_terms.specs.tm_cint.IntTypes.{is_in}
use Rattle.thresholds.specs.strided_dom.Progression.{IsInReach}
use Rattle.thresholds.specs.Thresholds.{Numbers, units, ends_of, all_types, of_length, near, of_constant}
use Rattle.thresholds.specs.Thresholds.{thresholds, AreThresholds}
use Rattle.thresholds.proofs.Reach.{lo_reach, hi_reach, not_less, not_more}
use Rattle.source_programs.specs.Laws.{AreInReach}
use Rattle.configured_laws.proofs.Lists.{all_of}
use Rattle.configured_laws.proofs.InOrder.{AreOrdered, ordered}

-- ## Numbers in reach

abbrev InReach : List ℤ → Type 0
InReach zs = All IsInReach zs

all_reach : {A : Type 0} (P : A → Type 0) (f : A → List ℤ) → ((a : A) → P a → InReach (f a)) → (as' : List A) → All P as'
    → InReach (flat_map f as')
all_reach P f each [] h = All-nil IsInReach
all_reach P f each (a ∷ as') h =
    All-append IsInReach (f a) (flat_map f as') (each a (All-head P a as' h))
    (all_reach P f each as' (All-tail P a as' h))

-- each number of a list
each_reach : (zs : List ℤ) → AllByRecursion IsInReach zs → InReach zs
each_reach zs h = All-from_recursion IsInReach zs h

then_reach : (xs ys : List ℤ) → InReach xs → InReach ys → InReach (xs ++ ys)
then_reach xs ys h k = All-append IsInReach xs ys h k

units_reach : InReach units
unfolding units
units_reach =
    let one : IsInReach (pos 1) = record { low = omega arith; high = omega arith } in
    let less : IsInReach (neg_ℤ (pos 1)) = record { low = omega arith; high = omega arith } in
    each_reach (pos 0 ∷ pos 1 ∷ neg_ℤ (pos 1) ∷ [])
    (record { low = omega arith; high = omega arith }, (one, (less, tt)))

ends_reach : (t : IntType) → InReach (ends_of t)
ends_reach t = each_reach (ends_of t) (lo_reach t, (hi_reach t, tt))

length_reach : (n : ℕ) → IsInReach (pos n) → InReach (of_length n)
length_reach n own =
    let high = own.high in
    let last : IsInReach (pos n -ℤ pos 1) = record { low = omega (arith, ints); high = omega (arith, ints, high) } in
    each_reach (of_length n) (own, (last, tt))

near_reach : (c : ℤ) → neg_ℤ (pos (2 ^ 63)) ≤ℤ c → c <ℤ pos (2 ^ 64) → InReach (near c)
near_reach c low high =
    let below : IsInReach (c -ℤ pos 1) = record {
      low = omega (arith, ints, low, high);
      high = omega (arith, ints, low, high);
    } in
    let own : IsInReach c = record { low = omega (arith, ints, low, high); high = omega (arith, ints, low, high) } in
    let above : IsInReach (c +ℤ pos 1) = record {
      low = omega (arith, ints, low, high);
      high = omega (arith, ints, low, high);
    } in
    let opposite : IsInReach (pos 0 -ℤ c) = record {
      low = omega (arith, ints, low, high);
      high = omega (arith, ints, low, high);
    } in
    each_reach (near c) (below, (own, (above, (opposite, tt))))

constant_reach : (c : ℤ) → InReach (of_constant c)
constant_reach c = by (is_in Ints.LLong c || is_in Ints.ULLong c) refl
  where
    by : (b : Bool) → b ≡ (is_in Ints.LLong c || is_in Ints.ULLong c) → InReach (cond b (near c) [])
    by true e = near_reach c (not_less c true e refl) (not_more c true e refl)
    by false e = All-nil IsInReach

anything : {A : Type 0} (as' : List A) → All (λ a. Unit {0}) as'
anything as' k d lt = tt

module _ (lengths : List ℕ) (constants labels : List ℤ) (short : AreInReach lengths) where
  abbrev numbers : Numbers
  numbers = record { lengths = lengths; constants = constants; labels = labels; given = [] }

  reach : InReach (thresholds numbers)
  reach =
      let ends = all_reach (λ t. Unit {0}) ends_of (λ t h. ends_reach t) all_types (anything all_types) in
      let of_lengths = all_reach (λ n. IsInReach (pos n)) of_length length_reach lengths short in
      let of_constants = all_reach (λ c. Unit {0}) of_constant (λ c h. constant_reach c) constants (anything constants) in
      let of_labels = all_reach (λ c. Unit {0}) of_constant (λ c h. constant_reach c) labels (anything labels) in
      let first = units ++ flat_map ends_of all_types in
      let second = first ++ flat_map of_length lengths in
      let third = second ++ flat_map of_constant constants in
      let fourth = third ++ flat_map of_constant labels in
      then_reach fourth []
      (then_reach third (flat_map of_constant labels)
      (then_reach second (flat_map of_constant constants)
      (then_reach first (flat_map of_length lengths)
      (then_reach units (flat_map ends_of all_types) units_reach ends) of_lengths) of_constants) of_labels)
      (All-nil IsInReach)

  by_order : (x y : ℤ) → (x <ℤ y) ⊎ ((x ≡ y) ⊎ (y <ℤ x))
  by_order x y = by (int_cmp x y) (int_ranks x y)
    where
      by : (o : Ordering) → MatchOrdering o (x <ℤ y) (x ≡ y) (y <ℤ x) → (x <ℤ y) ⊎ ((x ≡ y) ⊎ (y <ℤ x))
      by Less h = inl h
      by Equal h = inr (inl h)
      by Greater h = inr (inr h)

  pub some_thresholds : (marks : List ℤ) × AreThresholds numbers marks
  some_thresholds =
      let less : (x y z : ℤ) → x <ℤ y → y <ℤ z → x <ℤ z = λ x y z a b. omega (arith, ints, a, b) in
      let r = ordered (λ x y. x <ℤ y) by_order less (thresholds numbers) in
      let marks : List ℤ = r.0 in
      let is : AreOrdered (λ x y. x <ℤ y) by_order less (thresholds numbers) marks = r.1 in (
        marks,
        record {
          ascending = record {
            ascending = is.pairs;
            in_reach = all_of IsInReach marks
                (λ z c. All-contains IsInReach (thresholds numbers) z reach (is.only z c));
          };
          same = λ z. (is.only z, is.kept z);
        },
      )
