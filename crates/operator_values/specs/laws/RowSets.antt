-- The rows of each operator have a strided set, and so have its value and every conversion.
use Rattle.std.specs.Prelude.{◌≡◌, ◌≢◌, ◌⊎◌, ℕ, ◌<◌, ◌≤◌, ℤ, pos, ◌≤ℤ◌, ◌-ℤ◌, unsigned_abs, int_div, int_rem}
use Rattle.std.specs.Prelude.{bit_and, bit_or, bit_xor, int_lt, int_le, not, Ok, Result, true, false}
use Rattle.std.specs.Prelude as P
use Rattle.std.proofs.Common.{inl, inr, ⊎_elim, refl, sym, ap, ◌∙◌, subst, arith}
use Rattle.std.specs.Int.{int_max}
use Rattle.std.proofs.lemmas.Bool.{cases_lt}
use Rattle.std.proofs.lemmas.Int.{ints}
use Rattle.filters.specs.strided_dom.Progression.{Progression, empty, single, row, Has, first_of, last_of}
use Rattle.filters.proofs.low.strided_dom.Members.{IsSome, some_or_empty, spaced_from}
use Rattle.tm_cint.specs.tm_numbers.Divisors.{Divides}
use Rattle.tm_cint.specs.tm_numbers.Powers.{power}
use Rattle.tm_cint.proofs.low.tm_numbers.Divisibility.{is_by_remainder}
use Rattle.transfer_int.specs.interval_dom.Interval.{Span}
use Rattle.transfer_int.specs.interval_dom.Rows as I
use Rattle.transfer_int.specs.congruence_dom.Class.{InClass}
use Rattle.transfer_int.specs.congruence_dom.Laws.{DividesAll}
use Rattle.transfer_int.specs.congruence_dom.Rows as C
use Rattle.transfer_int.specs.congruence_dom.declared.classes.Cong.{Cong}
use Rattle.transfer_int.proofs.low.congruence_dom.Quotients.{power_not_zero}
use Rattle.tm_cint.specs.IntTypes.{IsIn, width_of}
use Rattle.tm_cint.specs.Conversions.{truth, is_zero, converted_value}
use Rattle.tm_cint.specs.Operators.{outcome, bitwise, is_same}
use Rattle.tm_cint.specs.declared.Class.{Class}
use Rattle.tm_cint.specs.declared.int_types.IntType.{IntType}
use Rattle.tm_cint.specs.declared.int_types.IntType.TheVariants.{Char, UChar, Short, UShort, Int, UInt, Long}
use Rattle.tm_cint.specs.declared.int_types.IntType.TheVariants.{ULong}
use Rattle.tm_cint.specs.declared.int_types.IntType.TheVariants.{LLong, ULLong, Bool as BoolType}
use Rattle.tm_cint.specs.declared.operators.BinOp.{BinOp}
use Rattle.tm_cint.specs.declared.operators.BinOp.TheVariants.{Add, Sub, Mul, Div, Rem, Shl, Shr, And, Or, Xor}
use Rattle.tm_cint.specs.declared.operators.BinOp.TheVariants.{Lt, Le}
use Rattle.tm_cint.specs.declared.operators.BinOp.TheVariants.{Gt, Ge, Eq, Ne}
use Rattle.transfer_int.specs.Operands.{span_of_set, class_of_set, IsDivisor, IsShifted, IsCount, IsResult, IsBetween}
use Rattle.transfer_int.specs.Rows.{InRowPair, InQuotients, InQuotientClass, IsQuotient, InRemainders, InLeftShifts}
use Rattle.transfer_int.specs.Rows.{InLeftShiftClass, InRightShifts, InRightShiftClass, InAnd, InOr, IsUnder, InRows}
use Rattle.transfer_int.specs.Values.{IsTruth, IsValue, IsConverted}
use Rattle.transfer_int.specs.reading.Fittings.{IsMember}
use Rattle.transfer_int.specs.reading.Parts.{IsPart}
use Rattle.transfer_int.specs.reading.Remainders.{AreSmaller}
use Rattle.transfer_int.proofs.Inside.{none_in}
use Rattle.transfer_int.proofs.Spans.{any_class}
use Rattle.transfer_int.proofs.Shifting.{counts_are, are_counts, one_count, from_many, from_one}
use Rattle.transfer_int.proofs.Shifting.{class_of_parts}
use Rattle.operator_values.specs.laws.Listings.{Test, not_test, both_test, same_test, most_test, Listing, relisted}
use Rattle.operator_values.specs.laws.Listings.{members, any_listed, passing_listing, result_listing}
use Rattle.operator_values.specs.laws.Sets.{SetOf, same_set, no_set, one_set, meet_set, cut_set, span_set, type_set}
use Rattle.operator_values.specs.laws.Sets.{member_set, between_set, bit_set, wrapped_set, fitted_set}

pub self_set : (a : Progression) → SetOf (Has a)
self_set a = (a, record { sound = λ v h. h; complete = λ v h. h })

pub set_listing : {P : ℤ → Type 0} → SetOf P → Listing P
set_listing r = relisted r.1.sound r.1.complete (members r.0)

pub listing_test : {P : ℤ → Type 0} → Listing P → (v : ℤ) → Test (P v)
listing_test {P} l v = ⊎_elim (λ found. inl (subst P found.1.1 found.1.0)) (λ none. inr (λ h. none (v, (h, refl))))
    (any_listed (λ w. w ≡ v) l (λ w. same_test w v))

-- ---- an interval row and a congruence row

pair_set : (span : Span → Span → Span) (class : Cong → Cong → Cong) (a b : Progression)
    → SetOf (InRowPair span class a b)
pair_set span class a b = ⊎_elim
    (λ p. ⊎_elim
    (λ q. same_set (IsMember (span (span_of_set a) (span_of_set b)) (class (class_of_set a) (class_of_set b)))
    (InRowPair span class a b)
    (λ v h. record { left = p; right = q; in_span = h.in_span; in_class = h.in_class })
    (λ v h. record { in_span = h.in_span; in_class = h.in_class })
    (member_set (span (span_of_set a) (span_of_set b)) (class (class_of_set a) (class_of_set b))))
    (λ e. no_set (InRowPair span class a b) (λ v h. none_in b (first_of b) e h.right)) (some_or_empty b))
    (λ e. no_set (InRowPair span class a b) (λ v h. none_in a (first_of a) e h.left)) (some_or_empty a)

-- ---- classes that a row asks for under a guard

abbrev pub RowClass : (ℤ → Type 0) → Type 0
RowClass C = (k : Cong) × ((v : ℤ) → (InClass k v → C v) × (C v → InClass k v))

all_class : (C : ℤ → Type 0) → ((v : ℤ) → C v) → RowClass C
all_class C all = (record { residue = pos 0; modulus = pos 1 }, λ v. (λ h. all v, λ h. any_class v))

guarded_class : (C : ℤ → Type 0) (G : Type 0) (k : Cong) → Test G
    → (G → (v : ℤ) → (InClass k v → C v) × (C v → InClass k v)) → ((G → ⊥) → (v : ℤ) → C v) → RowClass C
guarded_class C G k (inl g) guarded all = (k, guarded g)
guarded_class C G k (inr n) guarded all = all_class C (all n)

divides_test : (d z : ℤ) → d ≢ pos 0 → Test (Divides d z)
divides_test d z n = let r = is_by_remainder d z n in
    ⊎_elim (λ e. inl (r.0 e)) (λ m. inr (λ h. m (r.1 h))) (same_test (int_rem z d) (pos 0))

all_test : (d : ℤ) (k : Cong) → d ≢ pos 0 → Test (DividesAll d k)
all_test d k n = both_test (divides_test d k.residue n) (divides_test d k.modulus n)

-- ---- quotients and remainders

divisor_listing : (b : Progression) → Listing (IsDivisor b)
divisor_listing b = relisted (λ v h. record { member = h.0; not_zero = h.1 }) (λ v h. (h.member, h.not_zero))
    (passing_listing (λ v. v ≢ pos 0) (λ v. not_test (same_test v (pos 0))) (members b))

same_number : (x y : ℤ) → single x ≡ single y → x ≡ y
same_number x y e = cc

quotient_class : (a b : Progression) → RowClass (InQuotientClass a b)
quotient_class a empty = all_class (InQuotientClass a empty) (λ v d e. absurd cc)
quotient_class a (row first gap more) = all_class (InQuotientClass a (row first gap more)) (λ v d e. absurd cc)
quotient_class a (single d) = guarded_class (InQuotientClass a (single d)) Guard (C.div_row (class_of_set a) d)
    (by_zero (same_test d (pos 0)))
    (λ g v. (
      λ h w e n all. subst (λ x. InClass (C.div_row (class_of_set a) x) v) (same_number d w e) h,
      λ h. h d refl g.0 g.1,
    ))
    (λ none v w e n all.
    (let same = sym (same_number d w e) in
    absurd (none (subst (λ x. x ≢ pos 0) same n, subst (λ x. DividesAll x (class_of_set a)) same all))))
  where
    Guard : Type 0
    Guard = (d ≢ pos 0) × DividesAll d (class_of_set a)

    by_zero : Test (d ≡ pos 0) → Test Guard
    by_zero (inl e) = inr (λ g. g.0 e)
    by_zero (inr n) = both_test (inl n) (all_test d (class_of_set a) n)

quotient_set : (a b : Progression) → SetOf (InQuotients a b)
quotient_set a b =
    let c = quotient_class a b in
    same_set (λ v. IsBetween (IsQuotient a b) v × InQuotientClass a b v) (InQuotients a b)
    (λ v h. record { between = h.0; exact = h.1 }) (λ v h. (h.between, h.exact))
    (between_set (InQuotientClass a b) c.0 (result_listing int_div (members a) (divisor_listing b)) c.1)

most_size : (x y : ℤ) → Test (unsigned_abs y ≤ unsigned_abs x)
most_size x y = ⊎_elim (λ less. inr (λ le. absurd (omega (arith, le, less)))) (λ le. inl le)
    (cases_lt (unsigned_abs x) (unsigned_abs y))

smaller_test : (a b : Progression) → Test (AreSmaller a b)
smaller_test a b = ⊎_elim
    (λ found. inr (λ h. (let k = h found.0 found.1.1.0 found.1.0 found.1.1.1.0 in
    absurd (omega (arith, k, found.1.1.1.1)))))
    (λ none. inl (λ x y i j. ⊎_elim (λ less. less) (λ le. absurd (none (x, (i, (y, (j, le))))))
    (cases_lt (unsigned_abs x) (unsigned_abs y))))
    (any_listed (λ x. (y : ℤ) × (IsDivisor b y × (unsigned_abs y ≤ unsigned_abs x))) (members a)
    (λ x. any_listed (λ y. unsigned_abs y ≤ unsigned_abs x) (divisor_listing b) (most_size x)))

remainder_set : (a b : Progression) → SetOf (InRemainders a b)
remainder_set a b = ⊎_elim
    (λ found. same_set (λ v. Rows v × (AreSmaller a b → Has a v)) (InRemainders a b)
    (λ v h. record { rows = h.0; some = found.0; divisor = found.1.0; small = h.1 }) (λ v h. (h.rows, h.small))
    (cut_set Rows (Has a) (AreSmaller a b) (pair_set I.rem_row C.rem_row a b) (smaller_test a b) (λ g. self_set a)))
    (λ none. no_set (InRemainders a b) (λ v h. none (h.some, (h.divisor, refl))))
    (any_listed (λ v. v ≡ v) (divisor_listing b) (λ v. inl refl))
  where
    Rows : ℤ → Type 0
    Rows = InRowPair I.rem_row C.rem_row a b

-- ---- shifts

shifted_set : (a : Progression) → SetOf (IsShifted a)
shifted_set a = same_set (λ v. Has a v × ((pos 0 ≤ℤ v) × (v ≤ℤ last_of a))) (IsShifted a)
    (λ v h. record { member = h.0; not_negative = h.1.0 })
    (λ v h. (h.member, (h.not_negative, (spaced_from a v h.member).to)))
    (meet_set (Has a) (λ v. (pos 0 ≤ℤ v) × (v ≤ℤ last_of a)) (self_set a) (span_set (pos 0) (last_of a)))

count_set : (t : IntType) (b : Progression) → SetOf (IsCount t b)
count_set t b =
    let high = pos (width_of t) -ℤ pos 1 in
    let part = same_set (λ v. Has b v × ((pos 0 ≤ℤ v) × (v ≤ℤ high))) (IsPart b (pos 0) high)
    (λ v h. record { member = h.0; from = h.1.0; to = h.1.1 }) (λ v h. (h.member, (h.from, h.to)))
    (meet_set (Has b) (λ v. (pos 0 ≤ℤ v) × (v ≤ℤ high)) (self_set b) (span_set (pos 0) high)) in
    (part.0, counts_are t b part.0 (pos 0) high refl refl part.1)

module _ (t : IntType) (a b : Progression) where
  -- the numbers that are shifted, and the counts
  abbrev numbers : Progression
  numbers = (shifted_set a).0

  abbrev counts : Progression
  counts = (count_set t b).0

  abbrev Left : ℤ → Type 0
  Left = InLeftShiftClass (IsShifted a) (IsCount t b)

  abbrev Right : ℤ → Type 0
  Right = InRightShiftClass a (IsCount t b)

  left_parts : IsSome numbers → IsSome counts → RowClass (InLeftShiftClass (Has numbers) (Has counts))
  left_parts p q =
      let are = are_counts t b counts (count_set t b).1 in
      let n = unsigned_abs (first_of counts) in
      ⊎_elim
      (λ one. (
        C.shl_row (class_of_set numbers) n,
        from_one numbers counts p q are (C.shl_row (class_of_set numbers) n) refl one,
      ))
      (λ many. (
        C.shl_from_row (class_of_set numbers) n,
        from_many numbers counts p q are (C.shl_from_row (class_of_set numbers) n) refl many,
      )) (same_test (first_of counts) (last_of counts))

  left_class : IsSome numbers → IsSome counts → RowClass Left
  left_class p q =
      let k = left_parts p q in
      let s = (shifted_set a).1 in
      let c = (count_set t b).1 in (
        k.0,
        λ v. (
          λ h. class_of_parts (Has numbers) (Has counts) (IsShifted a) (IsCount t b) v
              (λ x. (s.sound x, s.complete x)) (λ x. (c.sound x, c.complete x)) ((k.1 v).0 h),
          λ h. (k.1 v).1 (class_of_parts (IsShifted a) (IsCount t b) (Has numbers) (Has counts) v
              (λ x. (s.complete x, s.sound x)) (λ x. (c.complete x, c.sound x)) h),
        ),
      )

  left_set : SetOf (InLeftShifts t a b)
  left_set = ⊎_elim
      (λ p. ⊎_elim
      (λ q. (let c = left_class p q in
      same_set (λ v. IsBetween (IsResult I.shift_left (IsShifted a) (IsCount t b)) v × Left v)
      (InLeftShifts t a b)
      (λ v h. record { between = h.0; class = h.1 }) (λ v h. (h.between, h.class))
      (between_set Left c.0 (result_listing I.shift_left (set_listing (shifted_set a))
      (set_listing (count_set t b))) c.1)))
      (λ e. no_set (InLeftShifts t a b) (λ v h. (let r = h.between.low_is in
      none_in counts r.right e ((count_set t b).1.complete r.right r.in_right)))) (some_or_empty counts))
      (λ e. no_set (InLeftShifts t a b) (λ v h. (let r = h.between.low_is in
      none_in numbers r.left e ((shifted_set a).1.complete r.left r.in_left)))) (some_or_empty numbers)

  right_class : IsSome counts → RowClass Right
  right_class q = ⊎_elim
      (λ one. guarded_class Right (DividesAll (power n) (class_of_set a)) (C.shr_row (class_of_set a) n)
      (all_test (power n) (class_of_set a) (power_not_zero n))
      (λ g v. (
        λ h m same d. subst (λ x. InClass (C.shr_row (class_of_set a) x) v) (is_count m same) h,
        λ h. h n (λ y j. only_count one y ((count_set t b).1.complete y j)) g,
      ))
      (λ none v m same d.
      absurd (none (subst (λ x. DividesAll (power x) (class_of_set a)) (sym (is_count m same)) d))))
      (λ many. all_class Right (λ v m same d.
      absurd (many (one_count counts q (are_counts t b counts (count_set t b).1) m
      (λ y h. same y ((count_set t b).1.sound y h))))))
      (same_test (first_of counts) (last_of counts))
    where
      n : ℕ
      n = unsigned_abs (first_of counts)

      only_count : first_of counts ≡ last_of counts → (y : ℤ) → Has counts y → unsigned_abs y ≡ n
      only_count one y h =
          let r = spaced_from counts y h in
          let e : y ≡ first_of counts = omega (arith, ints, r.from, r.to, one) in
          ap (λ x. unsigned_abs x) e

      is_count : (m : ℕ) → ((y : ℤ) → IsCount t b y → unsigned_abs y ≡ m) → n ≡ m
      is_count m same = same (first_of counts) ((count_set t b).1.sound (first_of counts) q)

  right_set : SetOf (InRightShifts t a b)
  right_set = ⊎_elim
      (λ q. (let c = right_class q in
      same_set (λ v. IsBetween (IsResult I.shift_right (Has a) (IsCount t b)) v × Right v) (InRightShifts t a b)
      (λ v h. record { between = h.0; exact = h.1 }) (λ v h. (h.between, h.exact))
      (between_set Right c.0 (result_listing I.shift_right (members a) (set_listing (count_set t b))) c.1)))
      (λ e. no_set (InRightShifts t a b) (λ v h. (let r = h.between.low_is in
      none_in counts r.right e ((count_set t b).1.complete r.right r.in_right)))) (some_or_empty counts)

-- ---- bits

abbrev IsExact : (ℕ → ℕ → ℕ) → IntType → Progression → Progression → ℤ → Type 0
IsExact f t a b v = (x y : ℤ) → a ≡ single x → b ≡ single y → v ≡ bitwise f t x y

module _ (f : ℕ → ℕ → ℕ) (t : IntType) (R : ℤ → Type 0) (r : SetOf R) where
  loose : (a b : Progression) → ((x y : ℤ) → a ≡ single x → b ≡ single y → ⊥) → SetOf (λ v. R v × IsExact f t a b v)
  loose a b none = same_set R (λ v. R v × IsExact f t a b v)
      (λ v h. (h, λ x y e g. absurd (none x y e g))) (λ v h. h.0) r

  exact_set : (a b : Progression) → SetOf (λ v. R v × IsExact f t a b v)
  exact_set empty b = loose empty b (λ x y e g. cc)
  exact_set (row first gap more) b = loose (row first gap more) b (λ x y e g. cc)
  exact_set (single x) empty = loose (single x) empty (λ z y e g. cc)
  exact_set (single x) (row first gap more) = loose (single x) (row first gap more) (λ z y e g. cc)
  exact_set (single x) (single y) = same_set (λ v. R v × (v ≡ bitwise f t x y))
      (λ v. R v × IsExact f t (single x) (single y) v)
      (λ v h. (
        h.0,
        λ z w e g. h.1 ∙ ap (λ i. bitwise f t i y) (same_number x z e) ∙ ap (bitwise f t z) (same_number y w g),
      ))
      (λ v h. (h.0, h.1 x y refl refl)) (meet_set R (λ v. v ≡ bitwise f t x y) r (one_set (bitwise f t x y)))

under_set : (R : ℤ → Type 0) (a : Progression) → SetOf R → SetOf (λ v. R v × IsUnder a v)
under_set R a r = cut_set R (λ v. (pos 0 ≤ℤ v) × (v ≤ℤ last_of a)) (pos 0 ≤ℤ first_of a) r
    (most_test (pos 0) (first_of a)) (λ g. span_set (pos 0) (last_of a))

module _ (t : IntType) (a b : Progression) where
  abbrev Bits : (ℕ → ℕ → ℕ) → ℤ → Type 0
  Bits f v = IsIn t v × IsExact f t a b v

  bits_set : (f : ℕ → ℕ → ℕ) → SetOf (Bits f)
  bits_set f = exact_set f t (λ v. IsIn t v) (type_set t) a b

  abbrev Under : ℤ → Type 0
  Under v = (Bits bit_and v × IsUnder a v) × IsUnder b v

  some_and : IsSome a → IsSome b → SetOf (InAnd t a b)
  some_and p q = same_set Under (InAnd t a b)
      (λ v h. record {
        bits = record { left = p; right = q; in_type = h.0.0.0; exact = h.0.0.1 };
        under_left = h.0.1;
        under_right = h.1;
      })
      (λ v h. (((h.bits.in_type, h.bits.exact), h.under_left), h.under_right))
      (under_set (λ v. Bits bit_and v × IsUnder a v) b (under_set (Bits bit_and) a (bits_set bit_and)))

  and_set : SetOf (InAnd t a b)
  and_set = ⊎_elim
      (λ p. ⊎_elim (λ q. some_and p q)
      (λ e. no_set (InAnd t a b) (λ v h. none_in b (first_of b) e h.bits.right)) (some_or_empty b))
      (λ e. no_set (InAnd t a b) (λ v h. none_in a (first_of a) e h.bits.left)) (some_or_empty a)

  module _ (f : ℕ → ℕ → ℕ) (least : ℤ) where
    abbrev Guard : Type 0
    Guard = (pos 0 ≤ℤ first_of a) × (pos 0 ≤ℤ first_of b)

    abbrev IsSpread : ℤ → Type 0
    IsSpread v = (least ≤ℤ v) × (v ≤ℤ I.ones_over (span_of_set a) (span_of_set b))

    some_or : IsSome a → IsSome b → SetOf (InOr f least t a b)
    some_or p q = same_set (λ v. Bits f v × (Guard → IsSpread v)) (InOr f least t a b)
        (λ v h. record {
          bits = record { left = p; right = q; in_type = h.0.0; exact = h.0.1 };
          spread = λ k l. h.1 (k, l);
        })
        (λ v h. ((h.bits.in_type, h.bits.exact), λ g. h.spread g.0 g.1))
        (cut_set (Bits f) IsSpread Guard (bits_set f)
        (both_test (most_test (pos 0) (first_of a)) (most_test (pos 0) (first_of b)))
        (λ g. span_set least (I.ones_over (span_of_set a) (span_of_set b))))

    or_set : SetOf (InOr f least t a b)
    or_set = ⊎_elim
        (λ p. ⊎_elim (λ q. some_or p q)
        (λ e. no_set (InOr f least t a b) (λ v h. none_in b (first_of b) e h.bits.right)) (some_or_empty b))
        (λ e. no_set (InOr f least t a b) (λ v h. none_in a (first_of a) e h.bits.left)) (some_or_empty a)

-- ---- all operators

pub rows_set : (op : BinOp) (t : IntType) (a b : Progression) → SetOf (InRows op t a b)
rows_set Add t a b = pair_set I.add_row C.add_row a b
rows_set Sub t a b = pair_set I.sub_row C.sub_row a b
rows_set Mul t a b = pair_set I.mul_row C.mul_row a b
rows_set Div t a b = quotient_set a b
rows_set Rem t a b = remainder_set a b
rows_set Shl t a b = left_set t a b
rows_set Shr t a b = right_set t a b
rows_set And t a b = and_set t a b
rows_set Or t a b = or_set t a b bit_or (int_max (first_of a) (first_of b))
rows_set Xor t a b = or_set t a b bit_xor (pos 0)
rows_set Lt t a b = no_set (InRows Lt t a b) (λ v h. h)
rows_set Le t a b = no_set (InRows Le t a b) (λ v h. h)
rows_set Gt t a b = no_set (InRows Gt t a b) (λ v h. h)
rows_set Ge t a b = no_set (InRows Ge t a b) (λ v h. h)
rows_set Eq t a b = no_set (InRows Eq t a b) (λ v h. h)
rows_set Ne t a b = no_set (InRows Ne t a b) (λ v h. h)

abbrev ok : ℤ → Result ℤ Class
ok z = Ok z

same_answer : (x y : ℤ) → ok x ≡ ok y → x ≡ y
same_answer x y e = cc

truth_bit : (b : P.Bool) (v : ℤ) → v ≡ truth b → (v ≡ pos 0) ⊎ (v ≡ pos 1)
truth_bit true v e = inr e
truth_bit false v e = inl e

truth_set : (op : BinOp) (t : IntType) (a b : Progression) (test : ℤ → ℤ → P.Bool)
    → ((x y : ℤ) → outcome op t x y ≡ ok (truth (test x y))) → SetOf (IsTruth op t a b)
truth_set op t a b test is =
    bit_set (IsTruth op t a b) (listing_test l (pos 0)) (listing_test l (pos 1))
    (λ v h. truth_bit (test h.left h.right) v (same_answer v (truth (test h.left h.right))
    (sym h.is ∙ is h.left h.right)))
  where
    l : Listing (IsTruth op t a b)
    l = relisted
        (λ v h. record {
          left = h.left;
          right = h.right;
          in_left = h.in_left;
          in_right = h.in_right;
          is = is h.left h.right ∙ ap ok (sym h.is);
        })
        (λ v h. record {
          left = h.left;
          right = h.right;
          in_left = h.in_left;
          in_right = h.in_right;
          is = same_answer v (truth (test h.left h.right)) (sym h.is ∙ is h.left h.right);
        })
        (result_listing (λ x y. truth (test x y)) (members a) (members b))

pub value_set : (op : BinOp) (t : IntType) (a b : Progression) → SetOf (IsValue op t a b)
value_set Lt t a b = truth_set Lt t a b int_lt (λ x y. refl)
value_set Le t a b = truth_set Le t a b int_le (λ x y. refl)
value_set Gt t a b = truth_set Gt t a b (λ x y. int_lt y x) (λ x y. refl)
value_set Ge t a b = truth_set Ge t a b (λ x y. int_le y x) (λ x y. refl)
value_set Eq t a b = truth_set Eq t a b is_same (λ x y. refl)
value_set Ne t a b = truth_set Ne t a b (λ x y. not (is_same x y)) (λ x y. refl)
value_set Add t a b = fitted_set t (InRows Add t a b) (rows_set Add t a b)
value_set Sub t a b = fitted_set t (InRows Sub t a b) (rows_set Sub t a b)
value_set Mul t a b = fitted_set t (InRows Mul t a b) (rows_set Mul t a b)
value_set Div t a b = fitted_set t (InRows Div t a b) (rows_set Div t a b)
value_set Rem t a b = fitted_set t (InRows Rem t a b) (rows_set Rem t a b)
value_set Shl t a b = fitted_set t (InRows Shl t a b) (rows_set Shl t a b)
value_set Shr t a b = fitted_set t (InRows Shr t a b) (rows_set Shr t a b)
value_set And t a b = fitted_set t (InRows And t a b) (rows_set And t a b)
value_set Or t a b = fitted_set t (InRows Or t a b) (rows_set Or t a b)
value_set Xor t a b = fitted_set t (InRows Xor t a b) (rows_set Xor t a b)

-- ---- conversions

zero_bit : (b : P.Bool) (v : ℤ) → v ≡ P.cond b (pos 0) (pos 1) → (v ≡ pos 0) ⊎ (v ≡ pos 1)
zero_bit true v e = inl e
zero_bit false v e = inr e

bool_set : (a : Progression) → SetOf (IsConverted BoolType a)
bool_set a = bit_set (IsConverted BoolType a) (at (pos 0)) (at (pos 1))
    (λ v h. zero_bit (is_zero h.0) v h.1.1)
  where
    at : (v : ℤ) → Test (IsConverted BoolType a v)
    at v = any_listed (λ x. v ≡ converted_value x BoolType) (members a)
        (λ x. same_test v (converted_value x BoolType))

pub converted_set : (t : IntType) (a : Progression) → SetOf (IsConverted t a)
converted_set BoolType a = bool_set a
converted_set Char a = wrapped_set Char a
converted_set UChar a = wrapped_set UChar a
converted_set Short a = wrapped_set Short a
converted_set UShort a = wrapped_set UShort a
converted_set Int a = wrapped_set Int a
converted_set UInt a = wrapped_set UInt a
converted_set Long a = wrapped_set Long a
converted_set ULong a = wrapped_set ULong a
converted_set LLong a = wrapped_set LLong a
converted_set ULLong a = wrapped_set ULLong a
