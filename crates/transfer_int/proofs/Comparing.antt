-- The values of a comparison, from which answers some members have.
use Rattle.std.proofs.Common.{ℕ, ◌≡◌, ◌⊎◌, inl, inr, ℤ, pos, Ok, Result, true, false, refl, sym, ap, ◌∙◌, subst, arith}
use Rattle.std.specs.Prelude as P
use Rattle.std.specs.Prelude.{◌≢◌, ◌↔◌, IsTrue, int_lt, int_le, not}
use Rattle.std.proofs.lemmas.Int.{ints}
use Rattle.strided_dom.specs.Progression.{Progression, empty, single, Has, IsExactly, first_of}
use Rattle.strided_dom.specs.Combinations.{IsInBoth}
use Rattle.strided_dom.proofs.Members.{some_or_empty}
use Rattle.interval_dom.proofs.Guarded.{both_true, is_le}
use Rattle.tm_cint.specs.Conversions.{truth}
use Rattle.tm_cint.specs.Operators.{outcome, is_same, IsComparison}
use Rattle.tm_cint.specs.declared.Class.{Class}
use Rattle.tm_cint.specs.declared.int_types.IntType.{IntType}
use Rattle.tm_cint.specs.declared.operators.BinOp.{BinOp}
use Rattle.tm_cint.specs.declared.operators.BinOp.TheVariants.{Add, Sub, Mul, Div, Rem, Shl, Shr, And, Or, Xor, Lt, Le, Gt, Ge, Eq, Ne}
use Rattle.transfer_int.specs.reading.Comparisons.{HasPair, IsTruthValue}
use Rattle.transfer_int.specs.Values.{IsTruth}
use Rattle.transfer_int.proofs.Inside.{none_in}

pub last_comparison : (op : BinOp) → IsComparison op → op ≢ Lt → op ≢ Le → op ≢ Gt → op ≢ Ge → op ≢ Eq → op ≡ Ne
last_comparison Lt h a b c d e = absurd (a refl)
last_comparison Le h a b c d e = absurd (b refl)
last_comparison Gt h a b c d e = absurd (c refl)
last_comparison Ge h a b c d e = absurd (d refl)
last_comparison Eq h a b c d e = absurd (e refl)
last_comparison Ne h a b c d e = refl
last_comparison Add h a b c d e = absurd h
last_comparison Sub h a b c d e = absurd h
last_comparison Mul h a b c d e = absurd h
last_comparison Div h a b c d e = absurd h
last_comparison Rem h a b c d e = absurd h
last_comparison Shl h a b c d e = absurd h
last_comparison Shr h a b c d e = absurd h
last_comparison And h a b c d e = absurd h
last_comparison Or h a b c d e = absurd h
last_comparison Xor h a b c d e = absurd h

abbrev ok : ℤ → Result ℤ Class
ok z = Ok z

same : (p q : ℤ) → ok p ≡ ok q → p ≡ q
same p q e = cc

truth_of : (t b : P.Bool) → t ≡ b → ok (truth t) ≡ ok (truth b)
truth_of t b e = ap (λ x. ok (truth x)) e

-- where the operator gives the truth of a test
pub truths_are : (op : BinOp) (t : IntType) (a b s : Progression) (test : ℤ → ℤ → P.Bool) (may_fail may_hold : P.Bool) → ((x y : ℤ) → outcome op t x y ≡ Ok (truth (test x y)))
    → (IsTrue may_fail ↔ HasPair test false a b) → (IsTrue may_hold ↔ HasPair test true a b) → IsExactly (IsTruthValue may_fail may_hold) s → IsExactly (IsTruth op t a b) s
truths_are op t a b s test may_fail may_hold is h k exact = record { sound = λ v p. from v (exact.sound v p); complete = λ v p. exact.complete v (to v p (test p.left p.right) refl) }
  where
    of_pair : (answer : P.Bool) (v : ℤ) → v ≡ truth answer → HasPair test answer a b → IsTruth op t a b v
    of_pair answer v e p = record {
      left = p.left;
      right = p.right;
      in_left = p.in_left;
      in_right = p.in_right;
      is = is p.left p.right ∙ truth_of (test p.left p.right) answer p.is ∙ ap ok (sym e);
    }

    from : (v : ℤ) → IsTruthValue may_fail may_hold v → IsTruth op t a b v
    from v (inl p) = of_pair false v p.1 (h.0 p.0)
    from v (inr p) = of_pair true v p.1 (k.0 p.0)

    to : (v : ℤ) (p : IsTruth op t a b v) (answer : P.Bool) → test p.left p.right ≡ answer → IsTruthValue may_fail may_hold v
    to v p true e =
        inr (k.1 (record { left = p.left; right = p.right; in_left = p.in_left; in_right = p.in_right; is = e }), same v (pos 1) (sym p.is ∙ is p.left p.right ∙ truth_of (test p.left p.right) true e))
    to v p false e =
        inl (h.1 (record { left = p.left; right = p.right; in_left = p.in_left; in_right = p.in_right; is = e }), same v (pos 0) (sym p.is ∙ is p.left p.right ∙ truth_of (test p.left p.right) false e))

-- ---- the set of the answers

pub one_answer : (may_fail may_hold : P.Bool) (n : ℕ) (s : Progression) → s ≡ single (pos n) → ((v : ℤ) → IsTruthValue may_fail may_hold v → v ≡ pos n) → IsTruthValue may_fail may_hold (pos n) → IsExactly (IsTruthValue may_fail may_hold) s
unfolding Has
one_answer may_fail may_hold n s e only here = record {
  sound = λ v p. (let q : v ≡ pos n = subst (λ x. Has x v) e p in subst (λ w. IsTruthValue may_fail may_hold w) (sym q) here);
  complete = λ v p. subst (λ x. Has x v) (sym e) (only v p);
}

-- ---- which answers some members have

pub no_pair_left : (test : ℤ → ℤ → P.Bool) (answer : P.Bool) (a b : Progression) → a ≡ empty → (IsTrue false ↔ HasPair test answer a b)
no_pair_left test answer a b e = (λ f. absurd cc, λ p. absurd (none_in a p.left e p.in_left))

pub no_pair_right : (test : ℤ → ℤ → P.Bool) (answer : P.Bool) (a b : Progression) → b ≡ empty → (IsTrue false ↔ HasPair test answer a b)
no_pair_right test answer a b e = (λ f. absurd cc, λ p. absurd (none_in b p.right e p.in_right))

less_or_not : (x y : ℤ) → (int_le y x ≡ true → int_lt x y ≡ false) × (int_lt x y ≡ false → int_le y x ≡ true)
less_or_not x y = (λ e. grind (arith, ints), λ e. grind (arith, ints))

at_most_or_not : (x y : ℤ) → (int_lt y x ≡ true → int_le x y ≡ false) × (int_le x y ≡ false → int_lt y x ≡ true)
at_most_or_not x y = (λ e. grind (arith, ints), λ e. grind (arith, ints))

not_is : (b : P.Bool) → ((b ≡ true → not b ≡ false) × (not b ≡ false → b ≡ true)) × ((b ≡ false → not b ≡ true) × (not b ≡ true → b ≡ false))
not_is true = ((λ e. refl, λ e. refl), (λ e. absurd cc, λ e. absurd cc))
not_is false = ((λ e. absurd cc, λ e. absurd cc), (λ e. refl, λ e. refl))

retested : (p q : ℤ → ℤ → P.Bool) (r s : P.Bool) (a b : Progression) (z : P.Bool) → ((x y : ℤ) → (p x y ≡ r → q x y ≡ s) × (q x y ≡ s → p x y ≡ r))
    → (IsTrue z ↔ HasPair p r a b) → (IsTrue z ↔ HasPair q s a b)
retested p q r s a b z e h = (
  λ t. (let k = h.0 t in record { left = k.left; right = k.right; in_left = k.in_left; in_right = k.in_right; is = (e k.left k.right).0 k.is }),
  λ k. h.1 (record { left = k.left; right = k.right; in_left = k.in_left; in_right = k.in_right; is = (e k.left k.right).1 k.is }),
)

turned : (p q : ℤ → ℤ → P.Bool) (r s : P.Bool) (a b : Progression) (z : P.Bool) → ((x y : ℤ) → (p y x ≡ r → q x y ≡ s) × (q x y ≡ s → p y x ≡ r))
    → (IsTrue z ↔ HasPair p r b a) → (IsTrue z ↔ HasPair q s a b)
turned p q r s a b z e h = (
  λ t. (let k = h.0 t in record { left = k.right; right = k.left; in_left = k.in_right; in_right = k.in_left; is = (e k.right k.left).0 k.is }),
  λ k. h.1 (record { left = k.right; right = k.left; in_left = k.in_right; in_right = k.in_left; is = (e k.left k.right).1 k.is }),
)

module _ (op : BinOp) (t : IntType) (a b s : Progression) (may_fail may_hold : P.Bool) (exact : IsExactly (IsTruthValue may_fail may_hold) s) where
  of_op : (o : BinOp) → op ≡ o → IsExactly (IsTruth o t a b) s → IsExactly (IsTruth op t a b) s
  of_op o e h = subst (λ x. IsExactly (IsTruth x t a b) s) (sym e) h

  pub less : op ≡ Lt → (IsTrue may_fail ↔ HasPair int_le true b a) → (IsTrue may_hold ↔ HasPair int_lt true a b) → IsExactly (IsTruth op t a b) s
  less e h k = of_op Lt e (truths_are Lt t a b s int_lt may_fail may_hold (λ x y. refl) (turned int_le int_lt true false a b may_fail less_or_not h) k exact)

  pub at_most : op ≡ Le → (IsTrue may_fail ↔ HasPair int_lt true b a) → (IsTrue may_hold ↔ HasPair int_le true a b) → IsExactly (IsTruth op t a b) s
  at_most e h k = of_op Le e (truths_are Le t a b s int_le may_fail may_hold (λ x y. refl) (turned int_lt int_le true false a b may_fail at_most_or_not h) k exact)

  pub greater : op ≡ Gt → (IsTrue may_fail ↔ HasPair int_le true a b) → (IsTrue may_hold ↔ HasPair int_lt true b a) → IsExactly (IsTruth op t a b) s
  greater e h k =
      of_op Gt e (truths_are Gt t a b s (λ x y. int_lt y x) may_fail may_hold (λ x y. refl)
      (retested int_le (λ x y. int_lt y x) true false a b may_fail (λ x y. less_or_not y x) h) (turned int_lt (λ x y. int_lt y x) true true a b may_hold (λ x y. (λ i. i, λ i. i)) k) exact)

  pub at_least : op ≡ Ge → (IsTrue may_fail ↔ HasPair int_lt true a b) → (IsTrue may_hold ↔ HasPair int_le true b a) → IsExactly (IsTruth op t a b) s
  at_least e h k =
      of_op Ge e (truths_are Ge t a b s (λ x y. int_le y x) may_fail may_hold (λ x y. refl)
      (retested int_lt (λ x y. int_le y x) true false a b may_fail (λ x y. at_most_or_not y x) h) (turned int_le (λ x y. int_le y x) true true a b may_hold (λ x y. (λ i. i, λ i. i)) k) exact)

  pub equal : op ≡ Eq → (IsTrue may_fail ↔ HasPair is_same false a b) → (IsTrue may_hold ↔ HasPair is_same true a b) → IsExactly (IsTruth op t a b) s
  equal e h k = of_op Eq e (truths_are Eq t a b s is_same may_fail may_hold (λ x y. refl) h k exact)

  pub unequal : op ≡ Ne → (IsTrue may_fail ↔ HasPair is_same true a b) → (IsTrue may_hold ↔ HasPair is_same false a b) → IsExactly (IsTruth op t a b) s
  unequal e h k =
      of_op Ne e (truths_are Ne t a b s (λ x y. not (is_same x y)) may_fail may_hold (λ x y. refl)
      (retested is_same (λ x y. not (is_same x y)) true false a b may_fail (λ x y. (not_is (is_same x y)).0) h) (retested is_same (λ x y. not (is_same x y)) false true a b may_hold (λ x y. (not_is (is_same x y)).1) k) exact)

-- ---- equal members, and others

is_same_refl : (x : ℤ) → is_same x x ≡ true
is_same_refl x = grind (arith, ints)

is_same_equal : (x y : ℤ) → is_same x y ≡ true → x ≡ y
is_same_equal x y e = (let h = both_true (int_le x y) (int_le y x) e in omega (arith, ints, is_le x y h.0, is_le y x h.1))

pub common_member : (a b m : Progression) (e : P.Bool) → IsExactly (IsInBoth a b) m → ((IsTrue e → m ≡ empty) × (m ≡ empty → IsTrue e)) → (IsTrue (not e) ↔ HasPair is_same true a b)
common_member a b m e exact h = (λ t. some_pair (some_or_empty m) t, λ p. by_empty p e refl)
  where
    some_pair : Has m (first_of m) ⊎ (m ≡ empty) → IsTrue (not e) → HasPair is_same true a b
    some_pair (inl k) t = (let p = exact.sound (first_of m) k in record { left = first_of m; right = first_of m; in_left = p.0; in_right = p.1; is = is_same_refl (first_of m) })
    some_pair (inr k) t = absurd (let f = h.1 k in let g = ap not f in cc)

    by_empty : HasPair is_same true a b → (f : P.Bool) → e ≡ f → not e ≡ true
    by_empty p true g = absurd (none_in m p.left (h.0 g) (exact.complete p.left (p.in_left, subst (λ y. Has b y) (sym (is_same_equal p.left p.right p.is)) p.in_right)))
    by_empty p false g = ap not g

pub differ_by_order : (a b : Progression) (p q : P.Bool) → (IsTrue p ↔ HasPair int_lt true a b) → (IsTrue q ↔ HasPair int_lt true b a) → p ≡ false → (IsTrue q ↔ HasPair is_same false a b)
differ_by_order a b p q h k n = (
  λ t. (let l = k.0 t in record { left = l.right; right = l.left; in_left = l.in_right; in_right = l.in_left; is = apart_from l.right l.left l.is }),
  λ l. by_order l (int_lt l.left l.right) refl,
)
  where
    apart_from : (x y : ℤ) → int_lt y x ≡ true → is_same x y ≡ false
    apart_from x y e = grind (arith, ints)

    other : (x y : ℤ) → int_lt x y ≡ false → is_same x y ≡ false → int_lt y x ≡ true
    other x y e f = grind (arith, ints)

    by_order : (l : HasPair is_same false a b) (v : P.Bool) → int_lt l.left l.right ≡ v → q ≡ true
    by_order l true e = absurd (let f = h.1 (record { left = l.left; right = l.right; in_left = l.in_left; in_right = l.in_right; is = e }) in cc)
    by_order l false e = k.1 (record { left = l.right; right = l.left; in_left = l.in_right; in_right = l.in_left; is = other l.left l.right e l.is })

pub differ_at_once : (a b : Progression) (p : P.Bool) → (IsTrue p ↔ HasPair int_lt true a b) → p ≡ true → (IsTrue true ↔ HasPair is_same false a b)
differ_at_once a b p h e = (λ t. (let l = h.0 e in record { left = l.left; right = l.right; in_left = l.in_left; in_right = l.in_right; is = apart_from l.left l.right l.is }), λ l. refl)
  where
    apart_from : (x y : ℤ) → int_lt x y ≡ true → is_same x y ≡ false
    apart_from x y e = grind (arith, ints)
