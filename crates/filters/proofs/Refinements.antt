-- The hull of the members that have a partner, where it is known which members these are.
use Rattle.std.proofs.Common.{◌≡◌, ◌≢◌, ℤ, pos, ◌+ℤ◌, ◌-ℤ◌, ◌≤ℤ◌, nat_abs, Bool, true, false, int_le, refl, sym, subst, arith, to_z, of_z}
use Rattle.std.specs.Int.{w128}
use Rattle.std.proofs.lemmas.Int.{ints, to_z-of_z}
use Rattle.strided_dom.specs.Progression.{Progression, empty, Has, IsSubset, IsExactly, IsHull, IsSpaced}
use Rattle.strided_dom.specs.Progression.{IsInReach, IsLeastNumber, IsGreatestNumber}
use Rattle.strided_dom.specs.Combinations.{IsAnother}
use Rattle.strided_dom.proofs.Members.{not_in_empty}
use Rattle.strided_dom.proofs.low.tm_numbers.Congruences.{cong_up}
use Rattle.strided_dom.proofs.Reach.{kept}
use Rattle.filters.specs.Partners.{HasPartner, Compares, IsAssumed}
use Rattle.tm_cint.specs.Operators.{IsComparison}
use Rattle.tm_cint.specs.declared.operators.BinOp.{BinOp}
use Rattle.tm_cint.specs.declared.operators.BinOp.TheVariants.{Add, Sub, Mul, Div, Rem, Shl, Shr, And, Or, Xor, Lt, Le, Gt, Ge, Eq, Ne}

empty_by : (s r : Progression) → r ≡ empty → IsSubset r s
empty_by s r e = record { within = λ v h. absurd (not_in_empty v (subst (λ x. Has x v) e h)) }

-- no number has a partner in the empty set
pub hull_none : (R : ℤ → ℤ → Type 0) (a b r : Progression) → b ≡ empty → r ≡ empty → IsHull (HasPartner R a b) r
hull_none R a b r e z = record {
  complete = λ v p. absurd (not_in_empty p.partner (subst (λ x. Has x p.partner) e p.in_other));
  least = λ t k. empty_by t r z;
}

-- the members that have a partner are those with the property Q
pub hull_by : (R : ℤ → ℤ → Type 0) (Q : ℤ → Type 0) (a b r : Progression)
    → ((v : ℤ) → Q v → (w : ℤ) × (Has b w × R v w)) → ((v w : ℤ) → Has b w → R v w → Q v)
    → IsExactly (λ v. Has a v × Q v) r → IsHull (HasPartner R a b) r
hull_by R Q a b r some all h = record {
  complete = λ v p. h.complete v (p.member, all v p.partner p.in_other p.related);
  least = λ t k. record { within = λ v m. (let x = h.sound v m in let y = some v x.1 in k v (record { member = x.0; partner = y.0; in_other = y.1.0; related = y.1.1 })) };
}

-- where b is w alone, they are those other than w
pub hull_another : (R : ℤ → ℤ → Type 0) (a b r : Progression) (w : ℤ)
    → ((v : ℤ) → v ≢ w → R v w) → ((v u : ℤ) → Has b u → R v u → v ≢ w) → Has b w
    → IsHull (IsAnother a w) r → IsHull (HasPartner R a b) r
hull_another R a b r w from to member h = record {
  complete = λ v p. h.complete v (p.member, to v p.partner p.in_other p.related);
  least = λ t k. h.least t (λ v x. k v (record { member = x.0; partner = w; in_other = member; related = from v x.1 }));
}

-- where each number has a partner, nothing is left out
pub hull_all : (R : ℤ → ℤ → Type 0) (a b : Progression) → ((v : ℤ) → (w : ℤ) × (Has b w × R v w)) → IsHull (HasPartner R a b) a
hull_all R a b some = record {
  complete = λ v p. p.member;
  least = λ t k. record { within = λ v m. (let y = some v in k v (record { member = m; partner = y.0; in_other = y.1.0; related = y.1.1 })) };
}

pub last_comparison : (op : BinOp) → IsComparison op → op ≢ Lt → op ≢ Le → op ≢ Gt → op ≢ Ge → op ≢ Eq → op ≡ Ne
last_comparison Lt h a b c d e = absurd (a refl)
last_comparison Le h a b c d e = absurd (b refl)
last_comparison Gt h a b c d e = absurd (c refl)
last_comparison Ge h a b c d e = absurd (d refl)
last_comparison Eq h a b c d e = absurd (e refl)
last_comparison Ne h a b c d e = refl
last_comparison Add h a b c d e = absurd h
last_comparison Sub h a b c d e = absurd h
last_comparison Mul h a b c d e = absurd h
last_comparison Div h a b c d e = absurd h
last_comparison Rem h a b c d e = absurd h
last_comparison Shl h a b c d e = absurd h
last_comparison Shr h a b c d e = absurd h
last_comparison And h a b c d e = absurd h
last_comparison Or h a b c d e = absurd h
last_comparison Xor h a b c d e = absurd h

-- the members of a from lo to hi are those with the property Q
pub cut : (a part r : Progression) (lo hi : ℤ) (Q : ℤ → Type 0)
    → ((v : ℤ) → Has a v → Q v → (lo ≤ℤ v) × (v ≤ℤ hi)) → ((v : ℤ) → lo ≤ℤ v → v ≤ℤ hi → Q v)
    → IsExactly (IsSpaced lo hi 1) part → IsExactly (λ v. Has a v × Has part v) r → IsExactly (λ v. Has a v × Q v) r
cut a part r lo hi Q between within h k = record {
  sound = λ v p. (let x = k.sound v p in let y = h.sound v x.1 in (x.0, within v y.from y.to));
  complete = λ v p. (let b = between v p.0 p.1 in k.complete v (p.0, h.complete v (record { from = b.0; to = b.1; congruent = cong_up 1 (nat_abs (v -ℤ lo)) v lo (omega (arith, ints, b.0)) })));
}

pub cut_none : (a : Progression) (Q : ℤ → Type 0) → a ≡ empty → IsExactly (λ v. Has a v × Q v) a
cut_none a Q e = record { sound = λ v p. absurd (not_in_empty v (subst (λ x. Has x v) e p)); complete = λ v p. p.0 }

pub one_less : (v : ℤ) → IsInReach v → to_z w128 (of_z w128 (to_z w128 (of_z w128 v) -ℤ pos 1)) ≡ v -ℤ pos 1
one_less v h = rw (kept h) (to_z-of_z w128 (v -ℤ pos 1) (omega (arith, ints, h.low, h.high)))

pub one_more : (v : ℤ) → IsInReach v → to_z w128 (of_z w128 (to_z w128 (of_z w128 v) +ℤ pos 1)) ≡ v +ℤ pos 1
one_more v h = rw (kept h) (to_z-of_z w128 (v +ℤ pos 1) (omega (arith, ints, h.low, h.high)))

pub assumed : (o op : BinOp) (a b left right : Progression) → op ≡ o
    → IsHull (HasPartner (Compares o) a b) left → IsHull (HasPartner (λ y x. Compares o x y) b a) right → IsAssumed op a b left right
assumed o op a b left right e h k = subst (λ p. IsAssumed p a b left right) (sym e) (record { of_left = h; of_right = k })

-- both ends are one number, so each member is it
pub hull_one : (R : ℤ → ℤ → Type 0) (a b r : Progression) (lo hi w : ℤ)
    → ((v : ℤ) → v ≢ lo → R v lo) → ((v u : ℤ) → R v u → v ≢ u)
    → IsLeastNumber (Has b) lo → IsGreatestNumber (Has b) hi → lo ≡ hi → w ≡ lo → IsHull (IsAnother a w) r → IsHull (HasPartner R a b) r
hull_one R a b r lo hi w from to least greatest e f h =
    hull_another R a b r lo from
    (λ v u m k g. to v u k (omega (arith, ints, least.bound u m, greatest.bound u m)))
    least.member (subst (λ x. IsHull (IsAnother a x) r) f h)

-- one of two ends differs from a number
pub other_end : (b : Progression) (lo hi v : ℤ) → Has b lo → Has b hi → lo ≢ hi → (w : ℤ) × (Has b w × (v ≢ w))
other_end b lo hi v h k n = by_case (int_le v lo) refl (int_le lo v) refl
  where
    by_case : (p : Bool) → int_le v lo ≡ p → (q : Bool) → int_le lo v ≡ q → (w : ℤ) × (Has b w × (v ≢ w))
    by_case true d true e = (hi, (k, λ g. n (omega (arith, ints))))
    by_case true d false e = (lo, (h, λ g. omega (arith, ints)))
    by_case false d q e = (lo, (h, λ g. omega (arith, ints)))
