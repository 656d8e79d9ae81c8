-- Whether a list is one of thresholds, found from its front.
use Rattle.std.proofs.Common.{◌≡◌, ℕ, ◌+◌, ◌-◌, ◌≤◌, ◌<◌, ◌^◌, ◌⊎◌, ◌↔◌, ⊎_elim, List, length, ℤ, pos, neg_ℤ, ◌-ℤ◌, ◌≤ℤ◌, ◌<ℤ◌, true, false, IsTrue, slice_index_or, refl, sym, ap, ◌∙◌, arith}
use Rattle.std.proofs.lemmas.Int.{ints}
use Rattle.std.proofs.lemmas.Bool.{cases_lt}
use Rattle.std.proofs.lemmas.List.{get_or_default}
use Rattle.strided_dom.specs.Progression.{IsInReach}
use Rattle.strided_dom.specs.Rounding.{IsMarkList}

-- the first n numbers are thresholds, of which `last` is the greatest, or the number before all that are in reach
pub record IsMarksUpTo (marks : List ℤ) (n : ℕ) (last : ℤ) : Type 0 where
  pub low : (neg_ℤ (pos (2 ^ 100)) -ℤ pos 1) ≤ℤ last
  pub high : last ≤ℤ pos (2 ^ 100)
  pub start : n ≡ 0 → last ≡ neg_ℤ (pos (2 ^ 100)) -ℤ pos 1
  pub previous : (d : ℤ) → 0 < n → last ≡ slice_index_or marks (n - 1) d
  pub in_reach : (k : ℕ) (d : ℤ) → k < n → IsInReach (slice_index_or marks k d)
  pub ascending : (j k : ℕ) (d : ℤ) → j < k → k < n → slice_index_or marks j d <ℤ slice_index_or marks k d

pub up_to_none : (marks : List ℤ) → IsMarksUpTo marks 0 (neg_ℤ (pos (2 ^ 100)) -ℤ pos 1)
up_to_none marks = record {
  low = omega (arith, ints);
  high = omega (arith, ints);
  start = λ _. refl;
  previous = λ d h. absurd (omega arith);
  in_reach = λ k d h. absurd (omega arith);
  ascending = λ j k d h h'. absurd (omega arith);
}

module _ (marks : List ℤ) (n : ℕ) (last : ℤ) (h : IsMarksUpTo marks n last) where
  -- the earlier numbers are at most `last`
  at_most_last : (j : ℕ) (d : ℤ) → j < n → slice_index_or marks j d ≤ℤ last
  at_most_last j d lt = ⊎_elim
      (λ less. (let q = h.ascending j (n - 1) d less (omega arith) in let r = h.previous d (omega arith) in omega (arith, ints, q, r)))
      (λ more. (let s : j ≡ n - 1 = omega arith in let r = h.previous d (omega arith) in let t = ap (λ i. slice_index_or marks i d) s in omega (arith, ints, r, t)))
      (cases_lt j (n - 1))

  pub up_to_more : (x e : ℤ) → n < length marks → x ≡ slice_index_or marks n e → last <ℤ x → x ≤ℤ pos (2 ^ 100) → IsMarksUpTo marks (n + 1) x
  up_to_more x e in_list x_is above to = record {
    low = omega (arith, ints, h.low);
    high = to;
    start = λ z. absurd (omega arith);
    previous = λ d _. (let s : n ≡ n + 1 - 1 = omega arith in x_is ∙ get_or_default marks n e d in_list ∙ ap (λ i. slice_index_or marks i d) s);
    in_reach = λ k d lt. ⊎_elim (λ less. h.in_reach k d less) (λ more. reach k d (omega arith)) (cases_lt k n);
    ascending = λ j k d lt lt'. ⊎_elim (λ less. h.ascending j k d lt less) (λ more. rise j k d lt (omega arith)) (cases_lt k n);
  }
    where
      at_end : (k : ℕ) (d : ℤ) → k ≡ n → slice_index_or marks k d ≡ x
      at_end k d s = ap (λ i. slice_index_or marks i d) s ∙ get_or_default marks n d e in_list ∙ sym x_is

      reach : (k : ℕ) (d : ℤ) → k ≡ n → IsInReach (slice_index_or marks k d)
      reach k d s = (let q = at_end k d s in record { low = omega (arith, ints, q, h.low); high = omega (arith, ints, q) })

      rise : (j k : ℕ) (d : ℤ) → j < k → k ≡ n → slice_index_or marks j d <ℤ slice_index_or marks k d
      rise j k d lt s = (let q = at_end k d s in let r = at_most_last j d (omega arith) in omega (arith, ints, q, r))

  pub up_to_all : length marks ≤ n → (IsTrue true ↔ IsMarkList marks)
  up_to_all all = (
    (λ _. record {
      ascending = λ i j d lt lt'. h.ascending i j d lt (omega arith);
      in_reach = λ i d lt. h.in_reach i d (omega arith);
    }),
    λ _. refl,
  )

  pub not_above : (x e : ℤ) → n < length marks → x ≡ slice_index_or marks n e → x ≤ℤ last → (IsTrue false ↔ IsMarkList marks)
  not_above x e in_list x_is below = ((λ p. cc), λ m. absurd (clash m (cases_lt 0 n)))
    where
      clash : IsMarkList marks → (0 < n) ⊎ (n ≤ 0) → ⊥
      clash m s = ⊎_elim
          (λ some. (let q = m.ascending (n - 1) n e (omega arith) in_list in let r = h.previous e some in omega (arith, ints, q, r)))
          (λ none. (let q = (m.in_reach n e in_list).low in let r = h.start (omega arith) in omega (arith, ints, q, r))) s

  pub not_in_reach : (x e : ℤ) → n < length marks → x ≡ slice_index_or marks n e → pos (2 ^ 100) <ℤ x → (IsTrue false ↔ IsMarkList marks)
  not_in_reach x e in_list x_is far = ((λ p. cc), λ m. (let q = (m.in_reach n e in_list).high in absurd (omega (arith, ints, q))))
