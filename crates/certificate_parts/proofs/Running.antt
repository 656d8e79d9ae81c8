-- Rows are read key by key.
use Rattle.std.proofs.Common.{◌≡◌, refl, sym, ap, subst, ◌∙◌, ℕ, List, [], ◌∷◌, ◌++◌, append_assoc}
use Rattle.certificate_words.specs.Words.{Line, line_onto}
use Rattle.certificate_parts.specs.Runs.{lines_onto, IsNoneOf, AreDistinct, IsStep, IsStuck, rows, AllFit}
use Rattle.certificate_parts.specs.Runs.{AfterAll, IsRun, IsNoRun}

pub onto_append : (a b : List Line) (text : List ℕ) → lines_onto (a ++ b) text ≡ lines_onto a (lines_onto b text)
onto_append [] b text = refl
onto_append (l ∷ a) b text = ap (line_onto l) (onto_append a b text)

-- each of these is another number
abbrev pub IsNew : ℕ → List ℕ → Type 0
IsNew k [] = Unit {0}
IsNew k (d ∷ ds) = (d ≡ k → ⊥) × IsNew k ds

none_of_front : (d : ℕ) (ks rest : List ℕ) (k : ℕ) → IsNoneOf d (ks ++ (k ∷ rest)) → d ≡ k → ⊥
none_of_front d [] rest k h = h.0
none_of_front d (e ∷ ks) rest k h = none_of_front d ks rest k h.1

pub new_at : (ks rest : List ℕ) (k : ℕ) → AreDistinct (ks ++ (k ∷ rest)) → IsNew k ks × IsNoneOf k rest
new_at [] rest k h = (tt, h.0)
new_at (d ∷ ks) rest k h =
    let t = new_at ks rest k h.1 in ((none_of_front d ks rest k h.0, t.0), t.1)

-- none of the numbers is one of the others
abbrev pub AreApart : List ℕ → List ℕ → Type 0
AreApart [] rest = Unit {0}
AreApart (d ∷ ds) rest = IsNoneOf d rest × AreApart ds rest

none_behind : (d : ℕ) (ks rest : List ℕ) → IsNoneOf d (ks ++ rest) → IsNoneOf d rest
none_behind d [] rest h = h
none_behind d (e ∷ ks) rest h = none_behind d ks rest h.1

pub apart_of : (ks rest : List ℕ) → AreDistinct (ks ++ rest) → AreApart ks rest
apart_of [] rest h = tt
apart_of (d ∷ ks) rest h = (none_behind d ks rest h.0, apart_of ks rest h.1)

-- What stands behind the row of a key may also stand behind it with the row of another key between them.
module _ {Z : Type 0} (row : ℕ → Z → List Line) (Fits : ℕ → Z → Type 0) (After : ℕ → List ℕ → Type 0)
    (apart : (d k : ℕ) (y : Z) (more : List ℕ) → (d ≡ k → ⊥) → Fits k y → After d more
    → After d (lines_onto (row k y) more)) where
  one_none : (ys : List Z) (old more : List ℕ) → AllFit row Fits After [] ys
      → old ≡ lines_onto (rows row Fits After [] ys) more → (ys ≡ []) × (more ≡ old)
  one_none [] old more f e = (refl, sym e)
  one_none (y ∷ ys) old more f e = absurd f

  -- no key
  pub run_none : (old : List ℕ) → IsRun row Fits After [] old [] old
  run_none old = record { fits = tt; is = refl; one = λ ys more f a e. one_none ys old more f e }

  rows_more : (ks rest : List ℕ) (zs more : List Z) → AllFit row Fits After ks zs
      → rows row Fits After (ks ++ rest) (zs ++ more) ≡ rows row Fits After ks zs ++ rows row Fits After rest more
  rows_more [] rest [] more f = refl
  rows_more [] rest (z ∷ zs) more f = absurd f
  rows_more (k ∷ ks) rest [] more f = absurd f
  rows_more (k ∷ ks) rest (z ∷ zs) more f =
      ap (λ ls. row k z ++ ls) (rows_more ks rest zs more f.1)
      ∙ sym (append_assoc (row k z) (rows row Fits After ks zs) (rows row Fits After rest more))

  fit_more : (ks rest : List ℕ) (zs more : List Z) → AllFit row Fits After ks zs → AllFit row Fits After rest more
      → AllFit row Fits After (ks ++ rest) (zs ++ more)
  fit_more [] rest [] more f g = g
  fit_more [] rest (z ∷ zs) more f g = absurd f
  fit_more (k ∷ ks) rest [] more f g = absurd f
  fit_more (k ∷ ks) rest (z ∷ zs) more f g = (f.0, fit_more ks rest zs more f.1 g)

  -- what keys have, in two parts
  pub record AreParts (ks rest : List ℕ) (ys : List Z) : Type 0 where
    pub front : List Z
    pub behind : List Z
    pub are : ys ≡ front ++ behind
    pub front_fits : AllFit row Fits After ks front
    pub behind_fits : AllFit row Fits After rest behind

  parts : (ks rest : List ℕ) (ys : List Z) → AllFit row Fits After (ks ++ rest) ys → AreParts ks rest ys
  parts [] rest ys f = record { front = []; behind = ys; are = refl; front_fits = tt; behind_fits = f }
  parts (k ∷ ks) rest [] f = absurd f
  parts (k ∷ ks) rest (y ∷ ys) f =
      let p = parts ks rest ys f.1 in
      record {
        front = y ∷ p.front;
        behind = p.behind;
        are = ap (λ zs. y ∷ zs) p.are;
        front_fits = (f.0, p.front_fits);
        behind_fits = p.behind_fits;
      }

  after_front : (ks rest : List ℕ) (text : List ℕ) → AfterAll row Fits After (ks ++ rest) text
      → AfterAll row Fits After ks text × AfterAll row Fits After rest text
  after_front [] rest text a = (tt, a)
  after_front (k ∷ ks) rest text a = let p = after_front ks rest text a.1 in ((a.0, p.0), p.1)

  after_row : (ks : List ℕ) (k : ℕ) (y : Z) (more : List ℕ) → IsNew k ks → Fits k y → AfterAll row Fits After ks more
      → AfterAll row Fits After ks (lines_onto (row k y) more)
  after_row [] k y more n f a = tt
  after_row (d ∷ ks) k y more n f a = (apart d k y more n.0 f a.0, after_row ks k y more n.1 f a.1)

  pub behind_rows : (d : ℕ) (ks : List ℕ) (ys : List Z) (more : List ℕ) → IsNoneOf d ks → AllFit row Fits After ks ys
      → After d more → After d (lines_onto (rows row Fits After ks ys) more)
  behind_rows d [] ys more n f a = a
  behind_rows d (k ∷ ks) [] more n f a = absurd f
  behind_rows d (k ∷ ks) (y ∷ ys) more n f a =
      subst (After d) (sym (onto_append (row k y) (rows row Fits After ks ys) more))
      (apart d k y (lines_onto (rows row Fits After ks ys) more) n.0 f.0 (behind_rows d ks ys more n.1 f.1 a))

  rest_after : (ks rest : List ℕ) (ys : List Z) (more : List ℕ) → AreApart ks rest → AllFit row Fits After rest ys
      → AfterAll row Fits After ks more → AfterAll row Fits After ks (lines_onto (rows row Fits After rest ys) more)
  rest_after [] rest ys more n f a = tt
  rest_after (d ∷ ks) rest ys more n f a =
      (behind_rows d rest ys more n.0 f a.0, rest_after ks rest ys more n.1 f a.1)

  -- the text that begins with rows in two parts
  in_parts : (ks rest : List ℕ) (ys : List Z) (p : AreParts ks rest ys) (old more : List ℕ)
      → old ≡ lines_onto (rows row Fits After (ks ++ rest) ys) more
      → old ≡ lines_onto (rows row Fits After ks p.front) (lines_onto (rows row Fits After rest p.behind) more)
  in_parts ks rest ys p old more e =
      e ∙ (ap (λ zs. lines_onto (rows row Fits After (ks ++ rest) zs) more) p.are
      ∙ (ap (λ ls. lines_onto ls more) (rows_more ks rest p.front p.behind p.front_fits)
      ∙ onto_append (rows row Fits After ks p.front) (rows row Fits After rest p.behind) more))

  -- one key more
  one_more : (ks : List ℕ) (k : ℕ) (old mid new : List ℕ) (zs : List Z) (z : Z) → IsNew k ks
      → IsRun row Fits After ks old zs mid → IsStep row Fits After k mid z new
      → (us : List Z) (y : Z) (more : List ℕ) → AllFit row Fits After ks us → Fits k y
      → AfterAll row Fits After ks more → After k more
      → old ≡ lines_onto (rows row Fits After ks us) (lines_onto (row k y) more)
      → (us ≡ zs) × (y ≡ z) × (more ≡ new)
  one_more ks k old mid new zs z n run step us y more f g a b e =
      let t = run.one us (lines_onto (row k y) more) f (after_row ks k y more n g a) e in
      let s = step.one y more g b (sym t.1) in
      (t.0, s.0, s.1)

  alone : (ks : List ℕ) (k : ℕ) (ys : List Z) → AllFit row Fits After (k ∷ []) ys
      → (y : Z) × (ys ≡ y ∷ []) × Fits k y
  alone ks k [] f = absurd f
  alone ks k (y ∷ []) f = (y, refl, f.0)
  alone ks k (y ∷ x ∷ ys) f = absurd f.1

  row_alone : (k : ℕ) (z : Z) (more : List ℕ)
      → lines_onto (rows row Fits After (k ∷ []) (z ∷ [])) more ≡ lines_onto (row k z) more
  row_alone k z more = onto_append (row k z) [] more

  pub run_more : (ks : List ℕ) (k : ℕ) (old mid new : List ℕ) (zs : List Z) (z : Z) → IsNew k ks
      → IsRun row Fits After ks old zs mid → IsStep row Fits After k mid z new
      → IsRun row Fits After (ks ++ k ∷ []) old (zs ++ z ∷ []) new
  run_more ks k old mid new zs z n run step =
      record {
        fits = fit_more ks (k ∷ []) zs (z ∷ []) run.fits (step.fits, tt);
        is = run.is ∙ (ap (lines_onto (rows row Fits After ks zs)) (step.is ∙ sym (row_alone k z new))
            ∙ (sym (onto_append (rows row Fits After ks zs) (rows row Fits After (k ∷ []) (z ∷ [])) new)
            ∙ ap (λ ls. lines_onto ls new) (sym (rows_more ks (k ∷ []) zs (z ∷ []) run.fits))));
        one = λ ys more f a e. by_parts ys more f a e;
      }
    where
      by_parts : (ys : List Z) (more : List ℕ) → AllFit row Fits After (ks ++ k ∷ []) ys
          → AfterAll row Fits After (ks ++ k ∷ []) more → old ≡ lines_onto (rows row Fits After (ks ++ k ∷ []) ys) more
          → (ys ≡ zs ++ z ∷ []) × (more ≡ new)
      by_parts ys more f a e =
          let p = parts ks (k ∷ []) ys f in
          let o = alone ks k p.behind p.behind_fits in
          let b = after_front ks (k ∷ []) more a in
          let is = in_parts ks (k ∷ []) ys p old more e
          ∙ ap (λ zs. lines_onto (rows row Fits After ks p.front) (lines_onto (rows row Fits After (k ∷ []) zs) more)) o.1
          ∙ ap (lines_onto (rows row Fits After ks p.front)) (row_alone k o.0 more) in
          let t = one_more ks k old mid new zs z n run step p.front o.0 more p.front_fits o.2 b.0 b.1.0 is in (
            p.are ∙ (ap (λ zs. p.front ++ zs) o.1 ∙ (ap (λ us. us ++ o.0 ∷ []) t.0 ∙ ap (λ y. zs ++ y ∷ []) t.1)),
            t.2,
          )

  -- no row of a key stands behind those before it
  pub no_run : (ks rest : List ℕ) (k : ℕ) (old mid : List ℕ) (zs : List Z) → AreDistinct (ks ++ (k ∷ rest))
      → IsRun row Fits After ks old zs mid → IsStuck row Fits After k mid → IsNoRun row Fits After (ks ++ (k ∷ rest)) old
  no_run ks rest k old mid zs d run stuck = record { never = by_parts }
    where
      behind : (ys : List Z) (more : List ℕ) (us : List Z) → AllFit row Fits After (k ∷ rest) ys
          → AfterAll row Fits After ks more → AfterAll row Fits After (k ∷ rest) more → AllFit row Fits After ks us
          → old ≡ lines_onto (rows row Fits After ks us) (lines_onto (rows row Fits After (k ∷ rest) ys) more) → ⊥
      behind [] more us f a b g e = f
      behind (y ∷ ys) more us f a b g e =
          let n = new_at ks rest k d in
          let whole = lines_onto (rows row Fits After (k ∷ rest) (y ∷ ys)) more in
          let t = run.one us whole g (rest_after ks (k ∷ rest) (y ∷ ys) more (apart_of ks (k ∷ rest) d) f a) e in
          stuck.never y (lines_onto (rows row Fits After rest ys) more) f.0 (behind_rows k rest ys more n.1 f.1 b.0)
          (sym t.1 ∙ onto_append (row k y) (rows row Fits After rest ys) more)

      by_parts : (ys : List Z) (more : List ℕ) → AllFit row Fits After (ks ++ (k ∷ rest)) ys
          → AfterAll row Fits After (ks ++ (k ∷ rest)) more
          → old ≡ lines_onto (rows row Fits After (ks ++ (k ∷ rest)) ys) more → ⊥
      by_parts ys more f a e =
          let p = parts ks (k ∷ rest) ys f in
          let b = after_front ks (k ∷ rest) more a in
          behind p.behind more p.front p.behind_fits b.0 b.1 p.front_fits (in_parts ks (k ∷ rest) ys p old more e)
