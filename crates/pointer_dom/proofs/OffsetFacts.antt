-- Sets of offsets that are made from a strided set.
use Rattle.std.proofs.Common.{◌≡◌, ◌≢◌, ℕ, ◌≤◌, ◌≤ℤ◌, max, List, ℤ, pos, nat_abs, refl, sym, ap, subst, ◌∙◌, arith}
use Rattle.std.proofs.lemmas.Int.{ints}
use Rattle.strided_dom.specs.Progression.{Progression, empty, single, Has, IsExactly, IsHull, IsSpaced}
use Rattle.strided_dom.specs.Progression.{IsLeastNumber, IsGreatestNumber, first_of, last_of}
use Rattle.strided_dom.specs.Combinations.{IsInBoth, IsInEither}
use Rattle.strided_dom.specs.Rounding.{IsInRounding}
use Rattle.strided_dom.proofs.low.tm_numbers.Congruences.{cong_up}
use Rattle.strided_dom.proofs.Members.{not_in_empty}
use Rattle.strided_dom.proofs.Spans.{exactly_same}
use Rattle.pointer_dom.specs.Offset.{IsOffset, IsOffsetAmong, IsInRoundingWithin}
use Rattle.pointer_dom.specs.OffsetSets.{OffsetSet, IsOffsetSet, IsOffsetsOf, AreEnds, no_offset, joined_offsets}
use Rattle.pointer_dom.specs.OffsetSets.{rounded_offsets}
use Rattle.pointer_dom.specs.laws.OffsetLaws.{same_hull, same_members}
use Rattle.pointer_dom.specs.StridedSets.{hull, hull_is, rounding_within, rounding_within_is}

-- the numbers from 0 to the size, in steps of 1
pub all_exactly : (size : ℕ) (s : Progression) → IsExactly (IsSpaced (pos 0) (pos size) 1) s → IsExactly (IsOffset size) s
all_exactly size s exact = exactly_same (IsSpaced (pos 0) (pos size) 1) (IsOffset size) s
    (λ v p. record { from = p.from; to = p.to })
    (λ v p. record { from = p.from; to = p.to; congruent = cong_up 1 (nat_abs v) v (pos 0) (omega (arith, ints, p.from)) }) exact

pub among_exactly : (size : ℕ) (s all both : Progression) → IsExactly (IsOffset size) all → IsExactly (IsInBoth s all) both → IsExactly (IsOffsetAmong size s) both
among_exactly size s all both h exact = exactly_same (IsInBoth s all) (IsOffsetAmong size s) both
    (λ v p. record { member = p.0; offset = h.sound v p.1 }) (λ v p. (p.member, h.complete v p.offset)) exact

-- the empty set, one offset, and the set of a property
pub none_of : (size : ℕ) (P : ℤ → Type 0) (s : Progression) (o : OffsetSet) → o ≡ no_offset → IsExactly P s → s ≡ empty → IsOffsetsOf size P o
none_of size P s o e exact none = subst (IsOffsetsOf size P) (sym e) (record {
  offsets = subst (IsExactly P) none exact;
  some = λ h. absurd (h refl);
  none = λ _. refl;
})

pub none_is : (s : Progression) → s ≡ empty → IsOffsetSet record { size = 0; offsets = s }
none_is s e = record { within = λ v p. absurd (not_in_empty v (subst (λ x. Has x v) e p)); none = λ _. refl }

pub one_is : (size offset : ℕ) (s : Progression) → s ≡ single (pos offset) → offset ≤ size → IsOffsetSet record { size = size; offsets = s }
unfolding Has
one_is size offset s e le = subst (λ x. IsOffsetSet record { size = size; offsets = x }) (sym e) (record {
  within = λ v p. record { from = omega (arith, ints); to = omega (arith, ints) };
  none = λ z. cc;
})

pub some_of : (size : ℕ) (P : ℤ → Type 0) (s : Progression) → IsExactly P s → s ≢ empty → IsOffsetsOf size P record { size = size; offsets = s }
some_of size P s exact some = record { offsets = exact; some = λ _. refl; none = λ e. absurd (some e) }

pub some_is : (size : ℕ) (s t : Progression) → IsExactly (IsOffsetAmong size t) s → s ≢ empty → IsOffsetSet record { size = size; offsets = s }
some_is size s t exact some = record { within = λ v p. (exact.sound v p).offset; none = λ e. absurd (some e) }

-- the join and the rounding that are computed are those of the definitions
pub joined_is : (size s-size t-size : ℕ) (s t r : Progression) → size ≡ max s-size t-size → IsHull (IsInEither s t) r
    → ◌≡◌ {A = OffsetSet} (record { size = size; offsets = r }) (joined_offsets record { size = s-size; offsets = s } record { size = t-size; offsets = t })
joined_is size s-size t-size s t r e h = (let same = same_hull (IsInEither s t) r (hull s t) h (hull_is s t) in λ i. record { size = e i; offsets = same i })

pub rounded_is : (marks : List ℤ) (size : ℕ) (s outer all both : Progression) → IsExactly (IsInRounding marks s) outer → IsExactly (IsOffset size) all → IsExactly (IsInBoth outer all) both
    → ◌≡◌ {A = OffsetSet} (record { size = size; offsets = both }) (rounded_offsets marks record { size = size; offsets = s })
rounded_is marks size s outer all both h k exact =
    let here = exactly_same (IsInBoth outer all) (IsInRoundingWithin size marks s) both
    (λ v p. record { rounding = h.sound v p.0; offset = k.sound v p.1 }) (λ v p. (h.complete v p.rounding, k.complete v p.offset)) exact in
    let same = same_members (IsInRoundingWithin size marks s) both (rounding_within size marks s) here (rounding_within_is size marks s) in
    λ i. record { size = size; offsets = same i }

not_negative : (v : ℤ) → pos 0 ≤ℤ v → v ≡ pos (nat_abs v)
not_negative v h = omega (arith, ints, h)

-- the ends of a set of offsets
pub ends_are : (o : OffsetSet) (set : Progression) (lo hi : ℤ) → set ≡ o.offsets → IsOffsetSet o → set ≢ empty
    → IsLeastNumber (Has set) lo → lo ≡ first_of set → IsGreatestNumber (Has set) hi → hi ≡ last_of set
    → AreEnds o (nat_abs lo) (nat_abs hi)
ends_are o set lo hi same o-is some least first greatest last =
    let low = o-is.within lo (subst (λ s. Has s lo) same least.member) in
    let high = o-is.within hi (subst (λ s. Has s hi) same greatest.member) in
    record {
      some = λ none. some (same ∙ none);
      first_is = ap first_of (sym same) ∙ sym first ∙ not_negative lo low.from;
      last_is = ap last_of (sym same) ∙ sym last ∙ not_negative hi high.from;
    }
