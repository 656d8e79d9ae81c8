-- Lists that stand one behind another in one list.
use Rattle.std.proofs.Common.{◌≡◌, ℕ, suc, zero, ◌+◌, ◌-◌, ◌<◌, ◌≤◌, List, [], ◌∷◌, ◌++◌, length, get_or, take, drop, refl, sym, ap, ◌∙◌, subst, arith, inl, inr, add-one}
use Rattle.std.specs.Prelude.{slice_range}
use Rattle.std.proofs.lemmas.Bool.{cases_lt}
use Rattle.std.proofs.lemmas.List.{length-append, length-drop, get_or_default, get_or_append_left, get_or_push, take_all, take-append-le, drop_at, drop-append-le}
use Rattle.cell_placings.specs.CellLists.{cells_at}
use Rattle.slot_numbers.specs.reading.Flat.{cut_from, start_of, AreCuts}

-- ## Reading

pub length_cut : (start : ℕ) (ends numbers : List ℕ) → length (cut_from start ends numbers) ≡ length ends
length_cut start [] numbers = refl
length_cut start (end ∷ ends) numbers = ap suc (length_cut end ends numbers)

cut_at : (start : ℕ) (ends numbers : List ℕ) (i : ℕ) → i < length ends
    → slice_range numbers (get_or (start ∷ ends) i 0) (get_or ends i 0) ≡ cells_at (cut_from start ends numbers) i
cut_at start [] numbers i lt = absurd (omega (arith, lt))
cut_at start (end ∷ ends) numbers zero lt = refl
cut_at start (end ∷ ends) numbers (suc i) lt = cut_at end ends numbers i (omega (arith, lt))

module _ (ends numbers : List ℕ) (lists : List (List ℕ)) (seen : cut_from 0 ends numbers ≡ lists) where
  pub counted : length ends ≡ length lists
  counted = sym (length_cut 0 ends numbers) ∙ ap (λ ls. length ls) seen

  module _ (i start end : ℕ) (lt : i < length lists) (from : start ≡ start_of ends i) (to : end ≡ get_or ends i end) where
    within : i < length ends
    within = subst (λ n. i < n) (sym counted) lt

    end_is : end ≡ get_or ends i 0
    end_is = to ∙ get_or_default ends i end 0 within

    pub list_stands : AreCuts ends numbers → (start ≤ end) × (end ≤ length numbers)
    list_stands cuts =
        let r = cuts.rising i within in
        let w = cuts.within i within in (omega (arith, r, from, end_is), omega (arith, w, end_is))

    pub list_read : slice_range numbers start end ≡ cells_at lists i
    list_read =
        ap (λ s. slice_range numbers s end) from ∙ ap (λ e. slice_range numbers (start_of ends i) e) end_is
        ∙ cut_at 0 ends numbers i within ∙ ap (λ ls. cells_at ls i) seen

-- ## One list more

range_kept : (numbers list : List ℕ) (start end : ℕ) → start ≤ length numbers → end ≤ length numbers
    → slice_range (numbers ++ list) start end ≡ slice_range numbers start end
range_kept numbers list start end from to =
    ap (λ xs. take (end - start) xs) (drop-append-le start numbers list from)
    ∙ take-append-le (end - start) (drop start numbers) list
    (let left = length-drop start numbers in omega (arith, left, from, to))

cut_kept : (start : ℕ) (ends numbers list : List ℕ) → start ≤ length numbers
    → ((i : ℕ) → i < length ends → get_or ends i 0 ≤ length numbers)
    → cut_from start ends (numbers ++ list) ≡ cut_from start ends numbers
cut_kept start [] numbers list from within = refl
cut_kept start (end ∷ ends) numbers list from within =
    let to = within 0 (omega arith) in
    ap (λ xs. xs ∷ cut_from end ends (numbers ++ list)) (range_kept numbers list start end from to)
    ∙ ap (λ ls. slice_range numbers start end ∷ ls)
    (cut_kept end ends numbers list to (λ i lt. within (suc i) (omega (arith, lt))))

cut_push : (start : ℕ) (ends numbers : List ℕ) (end : ℕ)
    → cut_from start (ends ++ end ∷ []) numbers
    ≡ cut_from start ends numbers ++ slice_range numbers (get_or (start ∷ ends) (length ends) 0) end ∷ []
cut_push start [] numbers end = refl
cut_push start (next ∷ ends) numbers end =
    ap (λ ls. slice_range numbers start next ∷ ls) (cut_push next ends numbers end)

last_range : (numbers list : List ℕ) (start end : ℕ) → start ≡ length numbers → end ≡ length numbers + length list
    → slice_range (numbers ++ list) start end ≡ list
last_range numbers list start end from to =
    ap (λ xs. take (end - start) xs) (drop_at numbers list start (sym from))
    ∙ take_all (end - start) list (omega (arith, from, to))

module _ (ends numbers list : List ℕ) (end : ℕ) (cuts : AreCuts ends numbers)
    (to : end ≡ length numbers + length list) where
  pub cut_more : cut_from 0 (ends ++ end ∷ []) (numbers ++ list) ≡ cut_from 0 ends numbers ++ list ∷ []
  cut_more =
      cut_push 0 ends (numbers ++ list) end
      ∙ ap (λ xs. cut_from 0 ends (numbers ++ list) ++ xs ∷ [])
      (last_range numbers list (start_of ends (length ends)) end cuts.all to)
      ∙ ap (λ ls. ls ++ list ∷ []) (cut_kept 0 ends numbers list (omega arith) cuts.within)

  start_kept : (i : ℕ) → i ≤ length ends → start_of (ends ++ end ∷ []) i ≡ start_of ends i
  start_kept i le = get_or_append_left (0 ∷ ends) (end ∷ []) 0 i (omega (arith, le))

  end_kept : (i : ℕ) → i < length ends → get_or (ends ++ end ∷ []) i 0 ≡ get_or ends i 0
  end_kept i lt = get_or_append_left ends (end ∷ []) 0 i lt

  end_added : get_or (ends ++ end ∷ []) (length ends) 0 ≡ end
  end_added = get_or_push ends end 0 (length ends) refl

  longer : length (numbers ++ list) ≡ length numbers + length list
  longer = length-append numbers list

  one_more : length (ends ++ end ∷ []) ≡ length ends + 1
  one_more = length-append ends (end ∷ [])

  pub cuts_more : AreCuts (ends ++ end ∷ []) (numbers ++ list)
  cuts_more = record {
    rising = λ i lt.
        elim (cases_lt i (length ends)) [
          | inl l ↦ (let s = start_kept i (omega (arith, l)) in
              let e = end_kept i l in
              let r = cuts.rising i l in omega (arith, s, e, r))
          | inr ge ↦ (let same : length ends ≡ i = omega (arith, ge, lt, one_more) in
              subst (λ k. start_of (ends ++ end ∷ []) k ≤ get_or (ends ++ end ∷ []) k 0) same
              (let s = start_kept (length ends) (omega arith) in
              let a = cuts.all in omega (arith, s, a, end_added, to)))
        ];
    within = λ i lt.
        elim (cases_lt i (length ends)) [
          | inl l ↦ (let e = end_kept i l in let w = cuts.within i l in omega (arith, e, w, longer))
          | inr ge ↦ (let same : length ends ≡ i = omega (arith, ge, lt, one_more) in
              subst (λ k. get_or (ends ++ end ∷ []) k 0 ≤ length (numbers ++ list)) same
              (omega (arith, end_added, to, longer)))
        ];
    all = ap (λ k. start_of (ends ++ end ∷ []) k) (one_more ∙ add-one (length ends)) ∙ end_added ∙ to ∙ sym longer;
  }
