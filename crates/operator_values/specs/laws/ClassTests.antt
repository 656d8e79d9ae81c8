-- Every class of errors of an operator can be tested.
use Rattle.std.specs.Prelude.{◌≡◌, ◌≢◌, ◌⊎◌, ℕ, true, false, Option, Some, None, ℤ, pos, negsuc, ◌<ℤ◌, refl}
use Rattle.std.specs.Prelude as P
use Rattle.std.proofs.Common.{inl, inr, ⊎_elim, sym, subst}
use Rattle.std.specs.FinMap as map
use Rattle.std.proofs.lemmas.Bool.{false≢true}
use Rattle.filters.specs.strided_dom.Progression.{Progression, Has}
use Rattle.filters.proofs.low.strided_dom.Members.{not_in_empty}
use Rattle.tm_cint.specs.IntTypes.{IsIn, is_signed, lo_of, hi_of}
use Rattle.tm_cint.specs.Operators.{is_count}
use Rattle.tm_cint.specs.declared.Class.{Class}
use Rattle.tm_cint.specs.declared.Class.TheVariants.{Overflow, Shift, Index, Pointer as PointerClass, Deref}
use Rattle.tm_cint.specs.declared.Class.TheVariants.{Lock, Race}
use Rattle.tm_cint.specs.declared.Class.TheVariants.{Div as DivByZero}
use Rattle.tm_cint.specs.declared.int_types.IntType.{IntType}
use Rattle.tm_cint.specs.declared.operators.BinOp.{BinOp}
use Rattle.tm_cint.specs.declared.operators.BinOp.TheVariants.{Add, Sub, Mul, Div, Rem, Shl, Shr, And, Or, Xor}
use Rattle.tm_cint.specs.declared.operators.BinOp.TheVariants.{Lt, Le}
use Rattle.tm_cint.specs.declared.operators.BinOp.TheVariants.{Gt, Ge, Eq, Ne}
use Rattle.transfer_int.specs.Values.{Leaves, HasLeastByMinusOne, HasZeroDivisor, HasBadCount, ShiftsNegative, MayFail}
use Rattle.transfer_int.specs.Values.{is_fitted, is_division, is_shift}
use Rattle.filters.specs.pointer_dom.Offset.{IsOffset}
use Rattle.filters.specs.pointer_dom.OffsetSets.{OffsetSet}
use Rattle.filters.specs.pointer_dom.Pointer.{Pointer}
use Rattle.filters.specs.pointer_dom.PointerSets.{Pointers, IsPointer, offsets_or_none}
use Rattle.filters.specs.pointer_dom.Advances.{IsAdvanced, IsSafeAdvance, IsSubscript, AreSubscripts}
use Rattle.filters.specs.pointer_dom.Selections.{Reaches}
use Rattle.operator_values.specs.laws.Listings.{Test, not_test, both_test, either_test, most_test, Listing}
use Rattle.operator_values.specs.laws.Listings.{members, any_listed, has_test}
use Rattle.operator_values.specs.laws.Comparisons.{less_test}
use Rattle.operator_values.specs.laws.RowSets.{rows_set, set_listing}
use Rattle.operator_values.specs.laws.OffsetTables.{any_entry}
use Rattle.operator_values.specs.laws.PointerResults.{any_pointer, reaches_test, subscript_test, advanced_listing}

-- whether a test has this answer
is_test : (b c : P.Bool) → Test (b ≡ c)
is_test true true = inl refl
is_test true false = inr (λ e. false≢true (sym e))
is_test false true = inr false≢true
is_test false false = inl refl

-- whether the operator is another one
is_remainder : (op : BinOp) → Test (op ≡ Rem)
is_remainder Rem = inl refl
is_remainder Add = inr (λ e. cc)
is_remainder Sub = inr (λ e. cc)
is_remainder Mul = inr (λ e. cc)
is_remainder Div = inr (λ e. cc)
is_remainder Shl = inr (λ e. cc)
is_remainder Shr = inr (λ e. cc)
is_remainder And = inr (λ e. cc)
is_remainder Or = inr (λ e. cc)
is_remainder Xor = inr (λ e. cc)
is_remainder Lt = inr (λ e. cc)
is_remainder Le = inr (λ e. cc)
is_remainder Gt = inr (λ e. cc)
is_remainder Ge = inr (λ e. cc)
is_remainder Eq = inr (λ e. cc)
is_remainder Ne = inr (λ e. cc)

is_left_shift : (op : BinOp) → Test (op ≡ Shl)
is_left_shift Shl = inl refl
is_left_shift Add = inr (λ e. cc)
is_left_shift Sub = inr (λ e. cc)
is_left_shift Mul = inr (λ e. cc)
is_left_shift Div = inr (λ e. cc)
is_left_shift Rem = inr (λ e. cc)
is_left_shift Shr = inr (λ e. cc)
is_left_shift And = inr (λ e. cc)
is_left_shift Or = inr (λ e. cc)
is_left_shift Xor = inr (λ e. cc)
is_left_shift Lt = inr (λ e. cc)
is_left_shift Le = inr (λ e. cc)
is_left_shift Gt = inr (λ e. cc)
is_left_shift Ge = inr (λ e. cc)
is_left_shift Eq = inr (λ e. cc)
is_left_shift Ne = inr (λ e. cc)

in_type_test : (t : IntType) (v : ℤ) → Test (IsIn t v)
in_type_test t v = ⊎_elim (λ h. inl (record { at_least = h.0; at_most = h.1 }))
    (λ none. inr (λ h. none (h.at_least, h.at_most))) (both_test (most_test (lo_of t) v) (most_test v (hi_of t)))

module _ (t : IntType) (a b : Progression) where
  leaves_test : (op : BinOp) → Test (Leaves op t a b)
  leaves_test op = ⊎_elim
      (λ h. inl (record { signed = h.0; number = h.1.0; in_rows = h.1.1.0; outside = h.1.1.1 }))
      (λ none. inr (λ h. none (h.signed, (h.number, (h.in_rows, h.outside)))))
      (both_test (is_test (is_signed t) true) (any_listed (λ v. IsIn t v → ⊥) (set_listing (rows_set op t a b))
      (λ v. not_test (in_type_test t v))))

  least_test : Test (HasLeastByMinusOne t a b)
  least_test = ⊎_elim (λ h. inl (record { signed = h.0; least = h.1.0; minus_one = h.1.1 }))
      (λ none. inr (λ h. none (h.signed, (h.least, h.minus_one))))
      (both_test (is_test (is_signed t) true) (both_test (has_test a (lo_of t)) (has_test b (negsuc 0))))

  zero_test : Test (HasZeroDivisor a b)
  zero_test = ⊎_elim (λ h. inl (record { dividend = h.0; in_left = h.1.0; zero_divisor = h.1.1 }))
      (λ none. inr (λ h. none (h.dividend, (h.in_left, h.zero_divisor))))
      (any_listed (λ x. Has b (pos 0)) (members a) (λ x. has_test b (pos 0)))

  count_test : Test (HasBadCount t a b)
  count_test = ⊎_elim
      (λ h. inl (record { left = h.0; right = h.1.1.0; in_left = h.1.0; in_right = h.1.1.1.0; bad = h.1.1.1.1 }))
      (λ none. inr (λ h. none (h.left, (h.in_left, (h.right, (h.in_right, h.bad))))))
      (any_listed (λ x. (y : ℤ) × (Has b y × (is_count t y ≡ false))) (members a)
      (λ x. any_listed (λ y. is_count t y ≡ false) (members b) (λ y. is_test (is_count t y) false)))

  negative_test : Test (ShiftsNegative t a b)
  negative_test = ⊎_elim
      (λ h. inl (record {
        signed = h.0;
        left = h.1.0;
        right = h.1.1.1.0;
        in_left = h.1.1.0;
        in_right = h.1.1.1.1.0;
        negative = h.1.1.1.1.1;
      }))
      (λ none. inr (λ h. none (h.signed, (h.left, (h.in_left, (h.right, (h.in_right, h.negative)))))))
      (both_test (is_test (is_signed t) true) (any_listed (λ x. (y : ℤ) × (Has b y × (x <ℤ pos 0))) (members a)
      (λ x. any_listed (λ y. x <ℤ pos 0) (members b) (λ y. less_test x (pos 0)))))

  pub fail_test : (op : BinOp) (class : Class) → Test (MayFail op t a b class)
  fail_test op Overflow = either_test (both_test (is_test (is_fitted op) true) (leaves_test op))
      (both_test (is_remainder op) least_test)
  fail_test op DivByZero = both_test (is_test (is_division op) true) zero_test
  fail_test op Shift = both_test (is_test (is_shift op) true) (either_test count_test
      (both_test (is_left_shift op) (either_test negative_test (leaves_test Shl))))
  fail_test op Index = inr (λ h. h)
  fail_test op PointerClass = inr (λ h. h)
  fail_test op Deref = inr (λ h. h)
  fail_test op Lock = inr (λ h. h)
  fail_test op Race = inr (λ h. h)

pub subscripts_test : (n : ℕ) (s : Progression) → Test (AreSubscripts n s)
subscripts_test n s = ⊎_elim (λ h. inr (λ all. h.1.1 (all h.0 h.1.0)))
    (λ none. inl (λ i m. ⊎_elim (λ is. is) (λ n. absurd (none (i, (m, n)))) (subscript_test n i)))
    (any_listed (λ i. IsSubscript n i → ⊥) (members s) (λ i. not_test (subscript_test n i)))

offset_test : (n : ℕ) (v : ℤ) → Test (IsOffset n v)
offset_test n v = ⊎_elim (λ h. inl (record { from = h.0; to = h.1 })) (λ none. inr (λ h. none (h.from, h.to)))
    (both_test (most_test (pos 0) v) (most_test v (pos n)))

module _ (Step : ℤ → Type 0) (steps : Listing Step) (p : Pointers) where
  abbrev Strays : ℕ → OffsetSet → Type 0
  Strays object o = (v : ℤ) × (IsAdvanced Step o.offsets v × (IsOffset o.size v → ⊥))

  strays_test : Test ((object : ℕ) × ((o : OffsetSet) × ((map.get p.objects object ≡ Some o) × Strays object o)))
  strays_test = any_entry Strays (λ object o. any_listed (λ v. IsOffset o.size v → ⊥)
      (advanced_listing Step steps o.offsets) (λ v. not_test (offset_test o.size v))) p.objects

  by_entry : (object : ℕ) (at : Option OffsetSet) → map.get p.objects object ≡ at
      → (((object : ℕ) × ((o : OffsetSet) × ((map.get p.objects object ≡ Some o) × Strays object o))) → ⊥) → (v : ℤ)
      → IsAdvanced Step (offsets_or_none at).offsets v → IsOffset (offsets_or_none at).size v
  by_entry object None e none v h = absurd (not_in_empty h.from h.in_offsets)
  by_entry object (Some o) e none v h = ⊎_elim (λ is. is) (λ n. absurd (none (object, (o, (e, (v, (h, n)))))))
      (offset_test o.size v)

  pub safe_test : Test (IsSafeAdvance Step p)
  safe_test = by_tests (is_test p.null false) (is_test p.invalid false) strays_test
    where
      by_tests : Test (p.null ≡ false) → Test (p.invalid ≡ false)
          → Test ((object : ℕ) × ((o : OffsetSet) × ((map.get p.objects object ≡ Some o) × Strays object o)))
          → Test (IsSafeAdvance Step p)
      by_tests (inr n) invalid strays = inr (λ h. n h.null)
      by_tests (inl e) (inr n) strays = inr (λ h. n h.invalid)
      by_tests (inl e) (inl f) (inl s) = inr (λ h.
          (let v = s.1.1.1 in
          let inside = h.inside s.0 v.0 in
          v.1.1 (subst (λ at. IsOffset (offsets_or_none at).size v.0) s.1.1.0
          (inside (subst (λ at. IsAdvanced Step (offsets_or_none at).offsets v.0) (sym s.1.1.0) v.1.0)))))
      by_tests (inl e) (inl f) (inr none) = inl (record {
        null = e;
        invalid = f;
        inside = λ object v h. by_entry object (map.get p.objects object) refl none v h;
      })

module _ (Alive : ℕ → Type 0) (Stands : ℕ → ℕ → Type 0) (alive_test : (object : ℕ) → Test (Alive object))
    (stands_test : (object offset : ℕ) → Test (Stands object offset)) where
  abbrev reach_test : (x : Pointer) → Test (Reaches Alive Stands x)
  reach_test x = reaches_test Alive Stands alive_test stands_test x

  pub all_reach_test : (p : Pointers) → Test ((x : Pointer) → IsPointer p x → Reaches Alive Stands x)
  all_reach_test p = ⊎_elim (λ h. inr (λ all. h.1.1 (all h.0 h.1.0)))
      (λ none. inl (λ x m. ⊎_elim (λ is. is) (λ n. absurd (none (x, (m, n)))) (reach_test x)))
      (any_pointer (λ x. Reaches Alive Stands x → ⊥) (λ x. not_test (reach_test x)) p)
