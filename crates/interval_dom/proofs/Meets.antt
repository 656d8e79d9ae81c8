-- Intersections of rows that stand under guards.
use Rattle.std.proofs.Common.{◌≡◌, ℤ, Bool, true, false, arith, refl, ap}
use Rattle.std.specs.Prelude.{Option, Some, None, IfSome}
use Rattle.interval_dom.specs.Interval.{Span, InInterval, IsWithin}
use Rattle.interval_dom.specs.Laws.{IsWithinRow}
use Rattle.interval_dom.specs.Rows.{meet_rows, row_if, only}
use Rattle.std.proofs.lemmas.Int.{ints, clamps}
use Rattle.interval_dom.proofs.Corners.{same_span, ≤ℤ_trans, min_l, min_r, max_l, max_r, min_in, max_in}

pub in_meet : (p q : Option Span) (z : ℤ) → IfSome p (λ r. InInterval r z) → IfSome q (λ r. InInterval r z) → IfSome (meet_rows p q) (λ r. InInterval r z)
in_meet None q z h k = k
in_meet (Some p) None z h k = h
in_meet (Some p) (Some q) z h k = record { low = max_in _ _ _ h.low k.low; high = min_in _ _ _ h.high k.high }

pub in_row_if : (g : Bool) (r : Span) (z : ℤ) → (g ≡ true → InInterval r z) → IfSome (row_if g r) (λ r. InInterval r z)
in_row_if true r z f = f refl
in_row_if false r z f = tt

pub meet_grows : (p q r s : Option Span) → IsWithinRow p r → IsWithinRow q s → IsWithinRow (meet_rows p q) (meet_rows r s)
meet_grows p q None None h k = tt
meet_grows None (Some q) None (Some s) h k = k
meet_grows (Some p) (Some q) None (Some s) h k = record { low = ≤ℤ_trans k.low (max_r p.lo q.lo); high = ≤ℤ_trans (min_r p.hi q.hi) k.high }
meet_grows None None None (Some s) h k = absurd k
meet_grows (Some p) None None (Some s) h k = absurd k
meet_grows (Some p) None (Some r) None h k = h
meet_grows (Some p) (Some q) (Some r) None h k = record { low = ≤ℤ_trans h.low (max_l p.lo q.lo); high = ≤ℤ_trans (min_l p.hi q.hi) h.high }
meet_grows None q (Some r) None h k = absurd h
meet_grows None q (Some r) (Some s) h k = absurd h
meet_grows (Some p) None (Some r) (Some s) h k = absurd k
meet_grows (Some p) (Some q) (Some r) (Some s) h k = record {
  low = max_in _ _ _ (≤ℤ_trans h.low (max_l p.lo q.lo)) (≤ℤ_trans k.low (max_r p.lo q.lo));
  high = min_in _ _ _ (≤ℤ_trans (min_l p.hi q.hi) h.high) (≤ℤ_trans (min_r p.hi q.hi) k.high);
}

pub row_if_grows : (g f : Bool) (p r : Span) → (f ≡ true → (g ≡ true) × IsWithin p r) → IsWithinRow (row_if g p) (row_if f r)
row_if_grows g false p r t = tt
row_if_grows true true p r t = (t refl).1
row_if_grows false true p r t = let e : false ≡ true = (t refl).0 in cc

-- a row that holds v leaves nothing else of v alone
pub meet_only : (p : Option Span) (v : ℤ) → IfSome p (λ r. InInterval r v) → meet_rows p (Some (only v)) ≡ Some (only v)
meet_only None v h = refl
meet_only (Some p) v h = ap Some (same_span (omega (arith, ints, clamps, h.low)) (omega (arith, ints, clamps, h.high)))
