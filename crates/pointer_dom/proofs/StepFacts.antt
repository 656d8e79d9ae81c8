-- Pointers that advance by the members of a set are those that advance by the steps which the set has.
use Rattle.std.proofs.Common.{◌≡◌, ◌↔◌, ℕ, ◌<◌, ◌^◌, Bool, true, false, not, ◌||◌, IsTrue, ℤ, pos, neg_ℤ, ◌-ℤ◌, ◌*ℤ◌, ◌≤ℤ◌, nat_abs, to_z, of_z, refl, sym, subst, ◌∙◌, arith}
use Rattle.std.specs.Int.{w128}
use Rattle.std.proofs.lemmas.Int.{ints, clamps, to_z-of_z}
use Rattle.std.specs.FinMap as map
use Rattle.strided_dom.specs.Progression.{Progression, single, Has, IsSubset, IsExactly, IsSpaced, IsInReach}
use Rattle.strided_dom.specs.Combinations.{IsInBoth, IsProduct}
use Rattle.strided_dom.proofs.low.tm_numbers.Congruences.{cong_up}
use Rattle.strided_dom.proofs.Products.{mul_between}
use Rattle.strided_dom.proofs.Spans.{exactly_same}
use Rattle.tm_lattice.specs.Tables.{Table}
use Rattle.pointer_dom.specs.OffsetSets.{OffsetSet}
use Rattle.pointer_dom.specs.PointerSets.{Pointers, offsets_or_none}
use Rattle.pointer_dom.specs.Advances.{IsAdvanced, IsReached, IsGiven, IsAdvance, StayInside, IsSafeAdvance, IsSubscript, AreSubscripts, IsElementStep, IsInteger, IsShortStep, directed}
use Rattle.pointer_dom.proofs.AdvanceFacts.{hull_weaken}

-- the same by another description of the steps
pub advanced_by : (Step Step' : ℤ → Type 0) → ((v : ℤ) → Step v → Step' v) → (offsets : Progression) (v : ℤ) → IsAdvanced Step offsets v → IsAdvanced Step' offsets v
advanced_by Step Step' f offsets v p = record { from = p.from; step = p.step; in_offsets = p.in_offsets; in_steps = f p.step p.in_steps; reached = p.reached }

pub reached_by : (Step Step' : ℤ → Type 0) → ((v : ℤ) → Step v → Step' v) → (o : OffsetSet) (v : ℤ) → IsReached Step o v → IsReached Step' o v
reached_by Step Step' f o v p = record { hull = hull_weaken (IsAdvanced Step o.offsets) (IsAdvanced Step' o.offsets) (advanced_by Step Step' f o.offsets) v p.hull; offset = p.offset }

module _ (Step : ℤ → Type 0) (steps : Progression) (exact : IsExactly Step steps) (p : Pointers) (before : Table OffsetSet) (same : before ≡ p.objects) where
  given_by : (after : Table OffsetSet) → IsGiven (λ object. IsReached (Has steps)) p.objects after → IsGiven (λ object. IsReached Step) p.objects after
  given_by after given object =
      let g = given object in
      let o = offsets_or_none (map.get p.objects object) in
      record {
        offsets = exactly_same (IsReached (Has steps) o) (IsReached Step o) _ (reached_by (Has steps) Step exact.sound o) (reached_by Step (Has steps) exact.complete o) g.offsets;
        some = g.some;
        none = g.none;
      }

  pub advance_is : (after : Table OffsetSet) (r : Pointers) → IsGiven (λ object. IsReached (Has steps)) before after → r ≡ record { null = false; invalid = false; objects = after } → IsAdvance Step p r
  advance_is after r given r-is = subst (IsAdvance Step p) (sym r-is) (record {
    null = refl;
    invalid = refl;
    objects = given_by after (subst (λ t. IsGiven (λ object. IsReached (Has steps)) t after) same given);
  })

  pub stay_by : StayInside (Has steps) before ↔ StayInside Step p.objects
  stay_by = (
    λ h object v m. subst (StayInside (Has steps)) same h object v (advanced_by Step (Has steps) exact.complete _ v m),
    λ h. subst (StayInside (Has steps)) (sym same) (λ object v m. h object v (advanced_by (Has steps) Step exact.sound _ v m)),
  )

-- none of three things holds
pub none_fails : (a b c : Bool) → ((a || b || not c) ≡ false) ↔ ((a ≡ false) × (b ≡ false) × IsTrue c)
none_fails true b c = (λ e. absurd (let f : true ≡ false = e in cc), λ h. h.0)
none_fails false true c = (λ e. (refl, e, absurd (let f : true ≡ false = e in cc)), λ h. h.1)
none_fails false false true = (λ e. (refl, refl, refl), λ h. refl)
none_fails false false false = (λ e. absurd (let f : true ≡ false = e in cc), λ h. absurd (let f : false ≡ true = h.2 in cc))

pub safe_is : (Step : ℤ → Type 0) (p : Pointers) (null invalid inside : Bool) → null ≡ p.null → invalid ≡ p.invalid → (IsTrue inside ↔ StayInside Step p.objects) → ((null || invalid || not inside) ≡ false) ↔ IsSafeAdvance Step p
safe_is Step p null invalid inside null-is invalid-is inside-is =
    let three = none_fails null invalid inside in (
      λ e. (let h = three.0 e in record { null = sym null-is ∙ h.0; invalid = sym invalid-is ∙ h.1; inside = inside-is.0 h.2 }),
      λ h. three.1 (null-is ∙ h.null, invalid-is ∙ h.invalid, inside-is.1 h.inside),
    )

-- subscripts
pub less_one : (n : ℕ) (v : ℤ) → v ≡ pos n → n < 2 ^ 32 → to_z w128 (of_z w128 (to_z w128 (of_z w128 v) -ℤ pos 1)) ≡ pos n -ℤ pos 1
less_one n v e small =
    let one : to_z w128 (of_z w128 v) ≡ v = to_z-of_z w128 v (omega (arith, ints, e, small)) in
    rw one (to_z-of_z w128 (v -ℤ pos 1) (omega (arith, ints, e, small)) ∙ omega (arith, ints, e))

pub subscripts_exactly : (n : ℕ) (top : ℤ) (s : Progression) → top ≡ pos n -ℤ pos 1 → IsExactly (IsSpaced (pos 0) top 1) s → IsExactly (IsSubscript n) s
subscripts_exactly n top s e exact = exactly_same (IsSpaced (pos 0) top 1) (IsSubscript n) s
    (λ v p. record { from = p.from; below = omega (arith, ints, e, p.to) })
    (λ v p. record { from = p.from; to = omega (arith, ints, e, p.below); congruent = cong_up 1 (nat_abs v) v (pos 0) (omega (arith, ints, p.from)) }) exact

pub subscripts_below : (n : ℕ) (s all : Progression) (b : Bool) → IsExactly (IsSubscript n) all → (IsTrue b ↔ IsSubset s all) → (not b ≡ false) ↔ AreSubscripts n s
subscripts_below n s all b exact h = (
  λ e i m. exact.sound i ((h.0 (from_not b e)).within i m),
  λ f. to_not b (h.1 (record { within = λ i m. exact.complete i (f i m) })),
)
  where
    from_not : (b : Bool) → not b ≡ false → IsTrue b
    from_not true e = refl
    from_not false e = absurd (let f : true ≡ false = e in cc)

    to_not : (b : Bool) → IsTrue b → not b ≡ false
    to_not true e = refl
    to_not false e = absurd (let f : false ≡ true = e in cc)

-- steps are short
short_in_reach : (v : ℤ) → IsShortStep v → IsInReach v
short_in_reach v h = record { low = omega (arith, ints, h.low); high = omega (arith, ints, h.high) }

element_short : (n cells : ℕ) (s : Progression) (v : ℤ) → n < 2 ^ 32 → cells < 2 ^ 32 → IsElementStep n cells s v → IsShortStep v
element_short n cells s v n-small cells-small p =
    let between = mul_between (pos 0) (pos (2 ^ 32)) p.index (pos cells) p.subscript.from (omega (arith, ints, n-small, p.subscript.below)) in
    record { low = omega (arith, ints, clamps, cells-small, between.0, p.step); high = omega (arith, ints, clamps, cells-small, between.1, p.step) }

module _ (n cells : ℕ) (s all both : Progression) (by : ℤ) (n-small : n < 2 ^ 32) (cells-small : cells < 2 ^ 32) (exact : IsExactly (IsSubscript n) all) (meet : IsExactly (IsInBoth s all) both) (by-is : by ≡ pos cells) where
  element_from : (v : ℤ) → IsProduct both by v → IsElementStep n cells s v
  element_from v p = let m = meet.sound p.factor p.in_set in record {
    index = p.factor;
    member = m.0;
    subscript = exact.sound p.factor m.1;
    step = subst (λ x. v ≡ p.factor *ℤ x) by-is p.product;
  }

  pub elements_in_reach : (v : ℤ) → IsProduct both by v → IsInReach v
  elements_in_reach v p = short_in_reach v (element_short n cells s v n-small cells-small (element_from v p))

  module _ (r : Progression) (times : IsExactly (IsProduct both by) r) where
    pub elements_exactly : IsExactly (IsElementStep n cells s) r
    elements_exactly = exactly_same (IsProduct both by) (IsElementStep n cells s) r element_from
        (λ v p. record { factor = p.index; in_set = meet.complete p.index (p.member, exact.complete p.index p.subscript); product = subst (λ x. v ≡ p.index *ℤ x) (sym by-is) p.step }) times

    pub elements_short : (v : ℤ) → Has r v → IsShortStep v
    elements_short v m = element_short n cells s v n-small cells-small (elements_exactly.sound v m)

-- distances are short
directed_low : (forward : Bool) (cells : ℕ) → cells < 2 ^ 32 → neg_ℤ (pos (2 ^ 32)) ≤ℤ directed forward cells
directed_low true cells h = omega (arith, ints)
directed_low false cells h = omega (arith, ints)

directed_high : (forward : Bool) (cells : ℕ) → cells < 2 ^ 32 → directed forward cells ≤ℤ pos (2 ^ 32)
directed_high true cells h = omega (arith, ints)
directed_high false cells h = omega (arith, ints)

pub directed_kept : (forward : Bool) (cells : ℕ) (v : ℤ) → cells < 2 ^ 32 → v ≡ directed forward cells → to_z w128 (of_z w128 v) ≡ directed forward cells
directed_kept forward cells v small e =
    let low = directed_low forward cells small in
    let high = directed_high forward cells small in
    to_z-of_z w128 v (omega (arith, ints, e, low, high)) ∙ e

product_short : (counts : Progression) (by v : ℤ) → neg_ℤ (pos (2 ^ 32)) ≤ℤ by → by ≤ℤ pos (2 ^ 32) → ((n : ℤ) → Has counts n → IsInteger n) → IsProduct counts by v → IsShortStep v
product_short counts by v low high integers p =
    let n = integers p.factor p.in_set in
    let between = mul_between (neg_ℤ (pos (2 ^ 63))) (pos (2 ^ 64)) p.factor by n.low (omega (arith, ints, n.high)) in
    record { low = omega (arith, ints, clamps, low, high, between.0, p.product); high = omega (arith, ints, clamps, low, high, between.1, p.product) }

module _ (forward : Bool) (cells : ℕ) (counts : Progression) (by : ℤ) (small : cells < 2 ^ 32) (integers : (n : ℤ) → Has counts n → IsInteger n) (by-is : by ≡ directed forward cells) where
  pub distance_short : (v : ℤ) → IsProduct counts (directed forward cells) v → IsShortStep v
  distance_short v p = product_short counts (directed forward cells) v (directed_low forward cells small) (directed_high forward cells small) integers p

  pub distances_in_reach : (v : ℤ) → IsProduct counts by v → IsInReach v
  distances_in_reach v p = short_in_reach v (distance_short v (subst (λ x. IsProduct counts x v) by-is p))

-- one step
pub one_short : (cells : ℕ) (s : Progression) → s ≡ single (pos cells) → cells < 2 ^ 32 → (n : ℤ) → Has s n → IsShortStep n
unfolding Has
one_short cells s e small n m = let n-is : n ≡ pos cells = subst (λ x. Has x n) e m in record { low = omega (arith, ints, n-is, small); high = omega (arith, ints, n-is, small) }

pub one_exactly : (cells : ℕ) (s : Progression) → s ≡ single (pos cells) → IsExactly (λ step. step ≡ pos cells) s
unfolding Has
one_exactly cells s e = subst (IsExactly (λ step. step ≡ pos cells)) (sym e) (record { sound = λ v m. m; complete = λ v m. m })
