-- Looking up a threshold, and the numbers of a class between two ends.
use Rattle.std.proofs.Common.{◌≡◌, ℕ, zero, suc, ◌+◌, ◌-◌, ◌*◌, ◌/◌, ◌%◌, ◌≤◌, ◌<◌, inl, inr, ⊎_elim, List, length, ℤ, pos, ◌+ℤ◌, ◌≤ℤ◌, ◌<ℤ◌, slice_index_or, refl, sym, ap, subst, arith}
use Rattle.std.proofs.lemmas.Int.{ints, by_lt_z}
use Rattle.std.proofs.lemmas.Bool.{cases_lt}
use Rattle.std.proofs.lemmas.List.{get_or_default}
use Rattle.strided_dom.specs.Progression.{Progression, empty, Has, IsExactly, IsSpaced, IsLeastNumber, IsInReach, first_of}
use Rattle.tm_numbers.specs.Congruence.{IsCongruent}
use Rattle.strided_dom.specs.Rounding.{IsMarkList, IsLowered, IsRaised, IsInRounding}
use Rattle.strided_dom.specs.reading.Classes.{IsSplitAt, IsInClass, IsInClassBetween}
use Rattle.strided_dom.specs.reading.Fields.{AreEndsOf}
use Rattle.tm_numbers.proofs.Congruences.{cong_refl, cong_sym, cong_trans, cong_up, cong_zero, strides_between}
use Rattle.strided_dom.proofs.Members.{not_in_empty}
use Rattle.strided_dom.proofs.Spans.{exactly_same, exactly_empty}
use Rattle.strided_dom.proofs.Roundings.{lowered_mono, raised_mono}

module _ (marks : List ℤ) (sorted : IsMarkList marks) where
  -- a mark above v has only such marks after it, and one that is at most v only such marks before it
  pub marks_after : (v d : ℤ) (m : ℕ) → v <ℤ slice_index_or marks m d → (k : ℕ) (e : ℤ) → m ≤ k → k < length marks → v <ℤ slice_index_or marks k e
  marks_after v d m h k e le lt = ⊎_elim
      (λ less. (let q = sorted.ascending m k d less lt in let r = get_or_default marks k d e lt in omega (arith, ints, q, r, h)))
      (λ more. (let s : m ≡ k = omega arith in let r = get_or_default marks k d e lt in let t = ap (λ i. slice_index_or marks i d) s in omega (arith, ints, r, t, h)))
      (cases_lt m k)

  pub marks_before : (v d : ℤ) (m : ℕ) → m < length marks → slice_index_or marks m d ≤ℤ v → (k : ℕ) (e : ℤ) → k < m + 1 → slice_index_or marks k e ≤ℤ v
  marks_before v d m in_list h k e lt = ⊎_elim
      (λ less. (let q = sorted.ascending k m d less in_list in let r = get_or_default marks k d e (omega arith) in let q' = q in omega (arith, ints, q', r, h)))
      (λ more. (let s : k ≡ m = omega arith in let r = get_or_default marks k d e (omega arith) in let t = ap (λ i. slice_index_or marks i d) s in omega (arith, ints, r, t, h)))
      (cases_lt k m)

  -- the mark that a number is moved to
  pub lowered_none : (v : ℤ) → IsSplitAt marks v 0 → IsLowered marks v v
  lowered_none v split = inr (refl, λ y p. (let q = split.after p.0.0 y (omega arith) p.0.1 in omega (arith, ints, q, p.0.2, p.1)))

  pub lowered_at : (v d : ℤ) (n : ℕ) → IsSplitAt marks v n → 0 < n → IsLowered marks v (slice_index_or marks (n - 1) d)
  lowered_at v d n split some =
      let x = slice_index_or marks (n - 1) d in
      let in_list : n - 1 < length marks = omega (arith, split.within) in
      inl (record {
        member = ((n - 1, in_list, get_or_default marks (n - 1) x d in_list), split.before (n - 1) d (omega arith));
        bound = λ y p. ⊎_elim
            (λ before. (let q = marks_before x d (n - 1) in_list (omega (arith, ints)) p.0.0 y (omega arith) in omega (arith, ints, q, p.0.2)))
            (λ after. (let q = split.after p.0.0 y after p.0.1 in absurd (omega (arith, ints, q, p.0.2, p.1)))) (cases_lt p.0.0 n);
      })

  pub raised_none : (v u : ℤ) (n : ℕ) → u +ℤ pos 1 ≡ v → IsSplitAt marks u n → n ≡ length marks → IsRaised marks v v
  raised_none v u n e split all = inr (refl, λ y p. (let q = split.before p.0.0 y (omega (arith, p.0.1)) in omega (arith, ints, q, p.0.2, p.1)))

  pub raised_at : (v u d : ℤ) (n : ℕ) → u +ℤ pos 1 ≡ v → IsSplitAt marks u n → n < length marks → IsRaised marks v (slice_index_or marks n d)
  raised_at v u d n e split in_list =
      let x = slice_index_or marks n d in
      let above = split.after n d (omega arith) in_list in
      inl (record {
        member = ((n, in_list, get_or_default marks n x d in_list), omega (arith, ints, above));
        bound = λ y p. ⊎_elim
            (λ before. (let q = split.before p.0.0 y before in absurd (omega (arith, ints, q, p.0.2, p.1))))
            (λ after. least y p.0.0 after p.0.1 p.0.2) (cases_lt p.0.0 n);
      })
    where
      least : (y : ℤ) (k : ℕ) → n ≤ k → k < length marks → slice_index_or marks k y ≡ y → slice_index_or marks n d ≤ℤ y
      least y k le lt at = ⊎_elim
          (λ less. (let q = sorted.ascending n k y less lt in let r = get_or_default marks n d y in_list in omega (arith, ints, q, r, at)))
          (λ more. (let s : n ≡ k = omega arith in let r = get_or_default marks n d y in_list in let t = ap (λ i. slice_index_or marks i y) s in omega (arith, ints, r, t, at)))
          (cases_lt n k)

  -- where a number in reach is moved is in reach
  pub lowered_reach : (v low : ℤ) → IsInReach v → IsLowered marks v low → IsInReach low
  lowered_reach v low h = ⊎_elim (λ g. subst IsInReach g.member.0.2 (sorted.in_reach g.member.0.0 low g.member.0.1)) (λ n. subst IsInReach (sym n.0) h)

  pub raised_reach : (v high : ℤ) → IsInReach v → IsRaised marks v high → IsInReach high
  raised_reach v high h = ⊎_elim (λ g. subst IsInReach g.member.0.2 (sorted.in_reach g.member.0.0 high g.member.0.1)) (λ n. subst IsInReach (sym n.0) h)

-- the least number of a class from an end on
pub class_flat : (low lo : ℤ) (m : ℕ) → m ≡ 0 → low ≤ℤ lo → IsLeastNumber (IsInClass low lo m) lo
class_flat low lo m z ordered = record {
  member = record { from = ordered; congruent = cong_refl m lo };
  bound = λ y h. (let e = cong_zero (subst (λ x. IsCongruent x y lo) z h.congruent) in omega (arith, ints));
}

pub class_by_rest : (low lo : ℤ) (m d : ℕ) → 0 < m → lo ≡ low +ℤ pos d → IsLeastNumber (IsInClass low lo m) (low +ℤ pos (d % m))
class_by_rest low lo m d some e = record {
  member = record { from = omega (arith, ints); congruent = congruent };
  bound = λ y h. by_lt_z y x (λ below. absurd (no_less y h below)) (λ p. p);
}
  where
    x : ℤ
    x = low +ℤ pos (d % m)

    d_is : d / m * m + d % m ≡ d
    d_is = omega arith

    rest : d % m < m
    rest = omega arith

    lo_is : lo ≡ (low +ℤ pos (d % m)) +ℤ pos (d / m * m)
    lo_is = omega (arith, ints, d_is)

    congruent : IsCongruent m (low +ℤ pos (d % m)) lo
    congruent = cong_sym (cong_up m (d / m) lo (low +ℤ pos (d % m)) lo_is)

    nearer : (y : ℤ) (k : ℕ) → low ≤ℤ y → low +ℤ pos (d % m) ≡ y +ℤ pos (k * m) → y <ℤ (low +ℤ pos (d % m)) → ⊥
    nearer y zero from f below = omega (arith, ints)
    nearer y (suc k) from f below = omega (arith, ints, rest)

    no_less : (y : ℤ) → IsInClass low lo m y → y <ℤ (low +ℤ pos (d % m)) → ⊥
    no_less y h below =
        let k = strides_between (cong_trans congruent (cong_sym h.congruent)) (omega (arith, ints)) in
        nearer y k.0 h.from k.1 below

-- the class between two ends, from its least number
pub class_exactly : (low high lo first : ℤ) (m : ℕ) (r : Progression) → IsLeastNumber (IsInClass low lo m) first → IsExactly (IsSpaced first high m) r → IsExactly (IsInClassBetween low high lo m) r
class_exactly low high lo first m r h exact = exactly_same (IsSpaced first high m) (IsInClassBetween low high lo m) r
    (λ v p. record { from = omega (arith, ints, p.from, h.member.from); to = p.to; congruent = cong_trans p.congruent h.member.congruent })
    (λ v p. record { from = h.bound v (record { from = p.from; congruent = p.congruent }); to = p.to; congruent = cong_trans p.congruent (cong_sym h.member.congruent) }) exact

-- the rounding of a set from the ends that are moved
pub rounding_is : (marks : List ℤ) (s r : Progression) (lo hi low high : ℤ) (m : ℕ) → AreEndsOf s lo hi m → IsLowered marks lo low → IsRaised marks hi high → IsExactly (IsInClassBetween low high lo m) r → IsExactly (IsInRounding marks s) r
rounding_is marks s r lo hi low high m h down up exact =
    exactly_same (IsInClassBetween low high lo m) (IsInRounding marks s) r
    (λ v p. record {
      low = low;
      high = high;
      some = h.some;
      lowered = rw (← h.first) down;
      raised = rw (← h.last) up;
      from = p.from;
      to = p.to;
      congruent = rw (← h.first, ← h.step) p.congruent;
    })
    (λ v p. record {
      from = (let q = lowered_mono marks lo lo p.low low (omega (arith, ints)) (rw h.first p.lowered) down in omega (arith, ints, q, p.from));
      to = (let q = raised_mono marks hi hi p.high high (omega (arith, ints)) (rw h.last p.raised) up in omega (arith, ints, q, p.to));
      congruent = rw (h.first, h.step) p.congruent;
    }) exact

pub rounding_empty : (marks : List ℤ) (s : Progression) → s ≡ empty → IsExactly (IsInRounding marks s) s
rounding_empty marks s e = exactly_empty (IsInRounding marks s) s e (λ v p. not_in_empty _ (subst (λ x. Has x (first_of s)) e p.some))
