-- The line of a key stands there, or not.
use Rattle.std.proofs.Common.{◌≡◌, refl, sym, ap, subst, ◌∙◌, ℕ, zero, suc, ◌+◌, ◌<◌, ◌≤◌, ◌^◌, pos, Bool, true, false, List}
use Rattle.std.proofs.Common.{[], ◌∷◌, ◌++◌, length, take, drop, get_or, arith}
use Rattle.std.proofs.lemmas.List.{take_all}
use Rattle.std.specs.Prelude.{MatchBool}
use Rattle.certificate_words.specs.Words.{number, Line, IsLine, line_onto}
use Rattle.certificate_words.proofs.OneText as texts
use Rattle.certificate_parts.specs.Fronts.{IsNotFront}
use Rattle.certificate_parts.specs.Runs.{lines_onto, IsStep, IsRun, AreDistinct}
use Rattle.certificate_parts.proofs.Running.{IsNew, new_at, run_none, run_more}
use Rattle.certificate_parts.specs.Rows.{IsTag, mark_line, mark_row, AnyMark, mark_after}

module _ (letters : List ℕ) (tagged : IsTag letters) where
  mark_lawful : (key : ℕ) → key < 2 ^ 64 → IsLine (mark_line letters key)
  mark_lawful key h = (tagged, (h, tt))

  one_mark : (d k : ℕ) → mark_line letters d ≡ mark_line letters k → d ≡ k
  one_mark d k e =
      let ws : number (pos d) ∷ [] ≡ number (pos k) ∷ [] = ap (λ (l : Line). l.rest) e in
      let w : number (pos d) ≡ number (pos k) = cc in
      let z : pos d ≡ pos k = cc in
      cc

  pub marks_apart : (d k : ℕ) (y : Bool) (more : List ℕ) → (d ≡ k → ⊥) → AnyMark k y → mark_after letters d more
      → mark_after letters d (lines_onto (mark_row letters k y) more)
  marks_apart d k false more other f a = a
  marks_apart d k true more other f a =
      record {
        never = λ rest lawful e.
            other (one_mark d k (sym (texts.line (mark_line letters k) (mark_line letters d) more rest (mark_lawful k f)
            lawful e).0));
      }

  pub mark_step : (key : ℕ) (old new : List ℕ) (taken : Bool) → key < 2 ^ 64
      → MatchBool taken (old ≡ line_onto (mark_line letters key) new)
      ((new ≡ old) × IsNotFront (mark_line letters key) old)
      → IsStep (mark_row letters) AnyMark (mark_after letters) key old taken new
  mark_step key old new true small h =
      record { fits = small; is = h; one = by_mark }
    where
      by_mark : (y : Bool) (more : List ℕ) → AnyMark key y → mark_after letters key more
          → old ≡ lines_onto (mark_row letters key y) more → (y ≡ true) × (more ≡ new)
      by_mark true more f a e = (
        refl,
        (texts.line (mark_line letters key) (mark_line letters key) more new (mark_lawful key small)
            (mark_lawful key small) (sym e ∙ h)).1,
      )
      by_mark false more f a e = absurd (a.never new (mark_lawful key small) (sym e ∙ h))
  mark_step key old new false small h =
      record { fits = small; is = sym h.0; one = by_mark }
    where
      by_mark : (y : Bool) (more : List ℕ) → AnyMark key y → mark_after letters key more
          → old ≡ lines_onto (mark_row letters key y) more → (y ≡ false) × (more ≡ new)
      by_mark true more f a e = absurd (h.1.never more (mark_lawful key small) e)
      by_mark false more f a e = (refl, sym e ∙ sym h.0)

-- ## The keys up to a place

pub take_one : (xs : List ℕ) (i : ℕ) → i < length xs → take (i + 1) xs ≡ take i xs ++ get_or xs i 0 ∷ []
take_one [] i l = absurd (omega (arith, l))
take_one (x ∷ xs) zero l = refl
take_one (x ∷ xs) (suc i) l =
    let e : suc i + 1 ≡ suc (i + 1) = omega arith in
    ap (λ n. take n (x ∷ xs)) e ∙ ap (λ ys. x ∷ ys) (take_one xs i (omega (arith, l)))

around : (xs : List ℕ) (i : ℕ) → i < length xs → xs ≡ take i xs ++ (get_or xs i 0 ∷ drop (i + 1) xs)
around [] i l = absurd (omega (arith, l))
around (x ∷ xs) zero l = refl
around (x ∷ xs) (suc i) l =
    let e : suc i + 1 ≡ suc (i + 1) = omega arith in
    ap (λ ys. x ∷ ys) (around xs i (omega (arith, l)))
    ∙ ap (λ n. x ∷ (take i xs ++ (get_or xs i 0 ∷ drop n (x ∷ xs)))) (sym e)

pub new_key : (keys : List ℕ) (i : ℕ) → i < length keys → AreDistinct keys → IsNew (get_or keys i 0) (take i keys)
new_key keys i l h = (new_at (take i keys) (drop (i + 1) keys) (get_or keys i 0) (subst AreDistinct (around keys i l) h)).0

module _ (letters : List ℕ) (tagged : IsTag letters) (keys : List ℕ) (distinct : AreDistinct keys) where
  pub marks_none : (old : List ℕ) → IsRun (mark_row letters) AnyMark (mark_after letters) [] old [] old
  marks_none old = run_none (mark_row letters) AnyMark (mark_after letters) (marks_apart letters tagged) old

  pub marks_more : (i : ℕ) (old mid new : List ℕ) (marks now : List Bool) (taken : Bool) → i < length keys
      → get_or keys i 0 < 2 ^ 64
      → IsRun (mark_row letters) AnyMark (mark_after letters) (take i keys) old marks mid
      → MatchBool taken (mid ≡ line_onto (mark_line letters (get_or keys i 0)) new)
      ((new ≡ mid) × IsNotFront (mark_line letters (get_or keys i 0)) mid)
      → now ≡ marks ++ taken ∷ []
      → IsRun (mark_row letters) AnyMark (mark_after letters) (take (i + 1) keys) old now new
  marks_more i old mid new marks now taken l small run is e =
      let key = get_or keys i 0 in
      let more = run_more (mark_row letters) AnyMark (mark_after letters) (marks_apart letters tagged) (take i keys) key
      old mid new marks taken (new_key keys i l distinct) run (mark_step letters tagged key mid new taken small is) in
      subst (λ ks. IsRun (mark_row letters) AnyMark (mark_after letters) ks old now new) (sym (take_one keys i l))
      (subst (λ ms. IsRun (mark_row letters) AnyMark (mark_after letters) (take i keys ++ key ∷ []) old ms new) (sym e) more)

  pub marks_all : (i : ℕ) (old new : List ℕ) (marks : List Bool) → length keys ≤ i
      → IsRun (mark_row letters) AnyMark (mark_after letters) (take i keys) old marks new
      → IsRun (mark_row letters) AnyMark (mark_after letters) keys old marks new
  marks_all i old new marks l run =
      subst (λ ks. IsRun (mark_row letters) AnyMark (mark_after letters) ks old marks new) (take_all i keys l) run
