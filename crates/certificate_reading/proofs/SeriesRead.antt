-- Rows are read number by number.
use Rattle.std.proofs.Common.{◌≡◌, refl, sym, ap, subst, ◌∙◌, ℕ, zero, suc, ◌+◌, ◌<◌, ◌≤◌, List, [], ◌∷◌, ◌++◌}
use Rattle.std.proofs.Common.{length, drop, get_or, arith}
use Rattle.std.proofs.Common.{append_assoc}
use Rattle.certificate_words.specs.Words.{Line, AreLines}
use Rattle.certificate_parts.specs.Runs.{lines_onto}
use Rattle.certificate_parts.proofs.Running.{onto_append}
use Rattle.certificate_reading.specs.Series.{IsRowIn, HasNoRow, rows_from, AllFit, AreRowsIn, HasNoRows}
use Rattle.certificate_reading.proofs.FirstLetters.{lines_split}

drop_at : {Z : Type 0} (n : ℕ) (zs : List Z) (d : Z) → n < length zs → drop n zs ≡ get_or zs n d ∷ drop (suc n) zs
drop_at zero [] d l = absurd (omega (arith, l))
drop_at zero (z ∷ zs) d l = refl
drop_at (suc n) [] d l = absurd (omega (arith, l))
drop_at (suc n) (z ∷ zs) d l = drop_at n zs d (omega (arith, l))

module _ {Z : Type 0} (row : ℕ → Z → List Line) (Fits : ℕ → Z → Type 0) (After : ℕ → List ℕ → Type 0)
    (End : List ℕ → Type 0) where
  abbrev Rows : ℕ → List Z → List Line
  Rows = rows_from row Fits After End

  abbrev Fit : ℕ → List Z → Type 0
  Fit = AllFit row Fits After End

  -- ## By index

  pub fit_at : (k n : ℕ) (zs : List Z) (d : Z) → n < length zs → Fit k zs → Fits (k + n) (get_or zs n d)
  fit_at k n [] d l h = absurd (omega (arith, l))
  fit_at k zero (z ∷ zs) d l h = let e : k ≡ k + zero = omega arith in subst (λ m. Fits m z) e h.0
  fit_at k (suc n) (z ∷ zs) d l h =
      let e : (k + 1) + n ≡ k + suc n = omega arith in
      subst (λ m. Fits m (get_or zs n d)) e (fit_at (k + 1) n zs d (omega (arith, l)) h.1)

  pub fit_all : (k : ℕ) (zs : List Z) (d : Z) → ((n : ℕ) → n < length zs → Fits (k + n) (get_or zs n d)) → Fit k zs
  fit_all k [] d each = tt
  fit_all k (z ∷ zs) d each = (
    (let e : k + zero ≡ k = omega arith in subst (λ m. Fits m z) e (each zero (omega arith))),
    fit_all (k + 1) zs d (λ n l.
        (let e : k + suc n ≡ (k + 1) + n = omega arith in
        subst (λ m. Fits m (get_or zs n d)) e (each (suc n) (omega (arith, l))))),
  )

  -- ## Rows one after another

  rows_append : (k : ℕ) (zs : List Z) (z : Z) → Rows k (zs ++ z ∷ []) ≡ Rows k zs ++ (row (k + length zs) z ++ [])
  rows_append k [] z = let e : k ≡ k + zero = omega arith in ap (λ n. row n z ++ []) e
  rows_append k (x ∷ zs) z =
      let e : (k + 1) + length zs ≡ k + length (x ∷ zs) = omega arith in
      ap (λ ls. row k x ++ ls) (rows_append (k + 1) zs z ∙ ap (λ n. Rows (k + 1) zs ++ (row n z ++ [])) e)
      ∙ sym (append_assoc (row k x) (Rows (k + 1) zs) (row (k + length (x ∷ zs)) z ++ []))

  fit_more : (k : ℕ) (zs : List Z) (z : Z) → Fit k zs → Fits (k + length zs) z → Fit k (zs ++ z ∷ [])
  fit_more k [] z h f = let e : k + zero ≡ k = omega arith in (subst (λ n. Fits n z) e f, tt)
  fit_more k (x ∷ zs) z h f =
      let e : k + length (x ∷ zs) ≡ (k + 1) + length zs = omega arith in
      (h.0, fit_more (k + 1) zs z h.1 (subst (λ n. Fits n z) e f))

  more_length : (zs : List Z) (z : Z) → length (zs ++ z ∷ []) ≡ suc (length zs)
  more_length [] z = refl
  more_length (x ∷ zs) z = ap suc (more_length zs z)

  -- what is left of the rows from a number on
  pub record AreLeft (n : ℕ) (mid : List ℕ) (ys : List Z) (more : List ℕ) : Type 0 where
    pub is : mid ≡ lines_onto (Rows n ys) more
    pub fits : Fit n ys
    pub lawful : AreLines (Rows n ys)

  -- so many rows have been read
  pub record AreRowsSoFar (count : ℕ) (old : List ℕ) (zs : List Z) (mid : List ℕ) : Type 0 where
    pub fits : Fit 0 zs
    pub is : old ≡ lines_onto (Rows 0 zs) mid
    pub left : (ys : List Z) (more : List ℕ) → length ys ≡ count → Fit 0 ys → AreLines (Rows 0 ys) → End more
        → old ≡ lines_onto (Rows 0 ys) more → AreLeft (length zs) mid (drop (length zs) ys) more

  pub rows_none : (count : ℕ) (old : List ℕ) (zs : List Z) → zs ≡ [] → AreRowsSoFar count old zs old
  rows_none count old zs none =
      subst (λ xs. AreRowsSoFar count old xs old) (sym none)
      (record {
        fits = tt;
        is = refl;
        left = λ ys more c f lawful end e. record { is = e; fits = f; lawful = lawful };
      })

  module _ (behind : (k : ℕ) (ys : List Z) (more : List ℕ) → AreLines (Rows (k + 1) ys) → End more
      → After k (lines_onto (Rows (k + 1) ys) more)) where
    -- the next row of those that are left
    next_left : (n : ℕ) (mid : List ℕ) (ys : List Z) (d : Z) (more : List ℕ) (z : Z) (new : List ℕ) → n < length ys
        → AreLeft n mid (drop n ys) more → End more → IsRowIn row Fits After End n mid z new
        → AreLeft (suc n) new (drop (suc n) ys) more
    next_left n mid ys d more z new l left end step =
        let whole : AreLeft n mid (get_or ys n d ∷ drop (suc n) ys) more =
        subst (λ xs. AreLeft n mid xs more) (drop_at n ys d l) left in
        let y = get_or ys n d in
        let rest = drop (suc n) ys in
        let parts = lines_split (row n y) (Rows (n + 1) rest) whole.lawful in
        let e : n + 1 ≡ suc n = omega arith in
        let same = step.one y (lines_onto (Rows (n + 1) rest) more) whole.fits.0 parts.0
        (behind n rest more parts.1 end) (whole.is ∙ onto_append (row n y) (Rows (n + 1) rest) more) in
        subst (λ m. AreLeft m new rest more) e
        (record { is = sym same; fits = whole.fits.1; lawful = parts.1 })

    pub rows_more : (count : ℕ) (old mid new : List ℕ) (zs now : List Z) (z : Z) → length zs < count
        → AreRowsSoFar count old zs mid → IsRowIn row Fits After End (length zs) mid z new → now ≡ zs ++ z ∷ []
        → AreRowsSoFar count old now new
    rows_more count old mid new zs now z l far step is =
        let same : 0 + length zs ≡ length zs = omega arith in
        let one : Rows 0 (zs ++ z ∷ []) ≡ Rows 0 zs ++ (row (length zs) z ++ []) =
        rows_append 0 zs z ∙ ap (λ n. Rows 0 zs ++ (row n z ++ [])) same in
        subst (λ xs. AreRowsSoFar count old xs new) (sym is)
        (record {
          fits = fit_more 0 zs z far.fits (subst (λ n. Fits n z) (sym same) step.fits);
          is = far.is ∙ (ap (lines_onto (Rows 0 zs)) (step.is ∙ sym (onto_append (row (length zs) z) [] new))
              ∙ (sym (onto_append (Rows 0 zs) (row (length zs) z ++ []) new)
              ∙ ap (λ ls. lines_onto ls new) (sym one)));
          left = λ ys more c f lawful end e.
              (let there : length zs < length ys = omega (arith, l, c) in
              subst (λ n. AreLeft n new (drop n ys) more) (sym (more_length zs z))
              (next_left (length zs) mid ys z more z new there (far.left ys more c f lawful end e) end step));
        })

    pub rows_stuck : (count : ℕ) (old mid : List ℕ) (zs : List Z) → length zs < count
        → AreRowsSoFar count old zs mid → HasNoRow row Fits After End (length zs) mid
        → HasNoRows row Fits After End count old
    rows_stuck count old mid zs l far none =
        record {
          never = λ ys more c f lawful end e. by_left ys more c (far.left ys more c f lawful end e) end;
        }
      where
        by_list : (n : ℕ) (ys : List Z) (more : List ℕ) → 0 < length ys → AreLeft n mid ys more → End more
            → HasNoRow row Fits After End n mid → ⊥
        by_list n [] more some left end none = omega (arith, some)
        by_list n (y ∷ ys) more some left end none =
            let parts = lines_split (row n y) (Rows (n + 1) ys) left.lawful in
            none.never y (lines_onto (Rows (n + 1) ys) more) left.fits.0 parts.0 (behind n ys more parts.1 end)
            (left.is ∙ onto_append (row n y) (Rows (n + 1) ys) more)

        some_left : (n : ℕ) (ys : List Z) → n < length ys → 0 < length (drop n ys)
        some_left zero ys l = l
        some_left (suc n) [] l = absurd (omega (arith, l))
        some_left (suc n) (y ∷ ys) l = some_left n ys (omega (arith, l))

        by_left : (ys : List Z) (more : List ℕ) → length ys ≡ count → AreLeft (length zs) mid (drop (length zs) ys) more
            → End more → ⊥
        by_left ys more c left end =
            by_list (length zs) (drop (length zs) ys) more (some_left (length zs) ys (omega (arith, l, c))) left end none

  drop_all : {A : Type 0} (n : ℕ) (xs : List A) → length xs ≤ n → drop n xs ≡ []
  drop_all zero [] l = refl
  drop_all zero (x ∷ xs) l = absurd (omega (arith, l))
  drop_all (suc n) [] l = refl
  drop_all (suc n) (x ∷ xs) l = drop_all n xs (omega (arith, l))

  pub rows_all : (count : ℕ) (old mid : List ℕ) (zs : List Z) → length zs ≡ count → AreRowsSoFar count old zs mid
      → AreRowsIn row Fits After End count old zs mid
  rows_all count old mid zs counted far =
      record {
        counted = counted;
        fits = far.fits;
        is = far.is;
        one = λ ys more c f lawful end e.
            (let left = far.left ys more c f lawful end e in
            let none : drop (length zs) ys ≡ [] = drop_all (length zs) ys (omega (arith, c, counted)) in
            sym (left.is ∙ ap (λ xs. lines_onto (Rows (length zs) xs) more) none));
      }

-- one more
pub next_count : {Z : Type 0} (zs now : List Z) (z : Z) (k : ℕ) → length zs ≡ k → now ≡ zs ++ z ∷ []
    → length now ≡ k + 1
next_count zs now z k e is = ap length is ∙ (by_list zs z ∙ (ap suc e ∙ (let f : suc k ≡ k + 1 = omega arith in f)))
  where
    by_list : {A : Type 0} (xs : List A) (x : A) → length (xs ++ x ∷ []) ≡ suc (length xs)
    by_list [] x = refl
    by_list (y ∷ xs) x = ap suc (by_list xs x)
