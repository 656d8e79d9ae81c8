-- The lines of values are read key by key.
use Rattle.std.proofs.Common.{◌≡◌, refl, sym, ap, subst, ◌∙◌, ℕ, ◌+◌, ◌<◌, ◌≤◌, ◌^◌, ℤ, pos, List, [], ◌∷◌, ◌++◌}
use Rattle.std.proofs.Common.{length, Option, Some, None}
use Rattle.std.proofs.Common.{take, drop, get_or, zero, suc, arith}
use Rattle.std.proofs.lemmas.List.{take_all}
use Rattle.pointer_dom.specs.Values.{Values}
use Rattle.certificate_words.specs.Words.{Word, tag, number, AreWords, IsLine, line_onto}
use Rattle.certificate_words.proofs.OneText as texts
use Rattle.certificate_parts.specs.Fronts.{AreFront, IsBehind, IsNotBegun}
use Rattle.certificate_parts.specs.Runs.{lines_onto, IsStep, IsStuck, IsRun, IsNoRun, AreDistinct}
use Rattle.certificate_parts.proofs.Running.{run_none, run_more, no_run}
use Rattle.certificate_parts.proofs.RowsRead.{new_key, take_one}
use Rattle.certificate_parts.specs.Rows.{IsTag}
use Rattle.certificate_parts.proofs.Fronting.{front_is, one_front, stepped}
use Rattle.certificate_texts.specs.ValueWords.{value_words}
use Rattle.certificate_reading.specs.Values.{IsValueOf, IsNoValueOf, IsReadValue}
use Rattle.certificate_reading.specs.Rows.{value_line, value_row, FitsRow, AnyText}

tail : {a b : Word} {x y : List Word} → a ∷ x ≡ b ∷ y → x ≡ y
tail e = cc

around : (xs : List ℕ) (i : ℕ) → i < length xs → xs ≡ take i xs ++ (get_or xs i 0 ∷ drop (i + 1) xs)
around [] i l = absurd (omega (arith, l))
around (x ∷ xs) zero l = refl
around (x ∷ xs) (suc i) l =
    let e : suc i + 1 ≡ suc (i + 1) = omega arith in
    ap (λ ys. x ∷ ys) (around xs i (omega (arith, l)))
    ∙ ap (λ n. x ∷ (take i xs ++ (get_or xs i 0 ∷ drop n (x ∷ xs)))) (sym e)

module _ (letters : List ℕ) (tagged : IsTag letters) (Fits : ℕ → Values → Type 0) where
  pub row_lawful : (key : ℕ) (v : Values) → FitsRow Fits key v → IsLine (value_line letters key v)
  row_lawful key v f = (tagged, (f.small, f.lawful))

  pub values_apart : (d k : ℕ) (y : Values) (more : List ℕ) → (d ≡ k → ⊥) → FitsRow Fits k y → AnyText d more
      → AnyText d (lines_onto (value_row letters k y) more)
  values_apart d k y more other f a = tt

  module _ (key : ℕ) (old : List ℕ) (words : List Word) (front : AreFront old words) where
    line_is : (y : Values) (more : List ℕ) → FitsRow Fits key y → old ≡ lines_onto (value_row letters key y) more
        → words ≡ tag letters ∷ number (pos key) ∷ value_words y
    line_is y more f e = one_front old words (value_line letters key y) more front (row_lawful key y f) e

    pub no_key : IsNotBegun words letters (pos key ∷ []) → IsStuck (value_row letters) (FitsRow Fits) AnyText key old
    no_key none = record { never = λ y more f a e. none.never (value_words y) (line_is y more f e) }

    module _ (rest : List Word) (is : words ≡ tag letters ∷ number (pos key) ∷ rest) where
      rest_is : (y : Values) (more : List ℕ) → FitsRow Fits key y → old ≡ lines_onto (value_row letters key y) more
          → rest ≡ value_words y
      rest_is y more f e = tail (tail (sym is ∙ line_is y more f e))

      pub no_value : IsNoValueOf (Fits key) rest → IsStuck (value_row letters) (FitsRow Fits) AnyText key old
      no_value none = record { never = λ y more f a e. none.never y f.fits (rest_is y more f e) }

      pub value_step : (v : Values) (new : List ℕ) → key < 2 ^ 64 → IsValueOf (Fits key) rest v → AreWords rest
          → IsBehind old new → IsStep (value_row letters) (FitsRow Fits) AnyText key old v new
      value_step v new small value lawful behind =
          let fits : FitsRow Fits key v =
          record { fits = value.fits; small = small; lawful = subst AreWords value.is lawful } in
          let text : old ≡ line_onto (value_line letters key v) new =
          stepped old new (value_line letters key v) (front_is old words (value_line letters key v) front
          (is ∙ ap (λ r. tag letters ∷ number (pos key) ∷ r) value.is)) behind in
          record {
            fits = fits;
            is = text;
            one = λ y more f a e. (
              value.one y f.fits (rest_is y more f e),
              (let same = value.one y f.fits (rest_is y more f e) in
                  (texts.line (value_line letters key y) (value_line letters key v) more new (row_lawful key y f)
                  (row_lawful key v fits) (sym e ∙ text)).1),
            );
          }

  -- ## The keys in order

  module _ (keys : List ℕ) (distinct : AreDistinct keys) where
    pub values_none : (old : List ℕ) → IsRun (value_row letters) (FitsRow Fits) AnyText [] old [] old
    values_none old = run_none (value_row letters) (FitsRow Fits) AnyText values_apart old

    pub values_more : (i : ℕ) (old mid new : List ℕ) (vs now : List Values) (v : Values) → i < length keys
        → IsRun (value_row letters) (FitsRow Fits) AnyText (take i keys) old vs mid
        → IsStep (value_row letters) (FitsRow Fits) AnyText (get_or keys i 0) mid v new → now ≡ vs ++ v ∷ []
        → IsRun (value_row letters) (FitsRow Fits) AnyText (take (i + 1) keys) old now new
    values_more i old mid new vs now v l run step e =
        let more = run_more (value_row letters) (FitsRow Fits) AnyText values_apart (take i keys) (get_or keys i 0) old mid
        new vs v (new_key keys i l distinct) run step in
        subst (λ ks. IsRun (value_row letters) (FitsRow Fits) AnyText ks old now new) (sym (take_one keys i l))
        (subst (λ ws. IsRun (value_row letters) (FitsRow Fits) AnyText (take i keys ++ get_or keys i 0 ∷ []) old ws new)
        (sym e) more)

    pub values_stuck : (i : ℕ) (old mid : List ℕ) (vs : List Values) → i < length keys
        → IsRun (value_row letters) (FitsRow Fits) AnyText (take i keys) old vs mid
        → IsStuck (value_row letters) (FitsRow Fits) AnyText (get_or keys i 0) mid
        → IsNoRun (value_row letters) (FitsRow Fits) AnyText keys old
    values_stuck i old mid vs l run stuck =
        subst (λ ks. IsNoRun (value_row letters) (FitsRow Fits) AnyText ks old) (sym (around keys i l))
        (no_run (value_row letters) (FitsRow Fits) AnyText values_apart (take i keys) (drop (i + 1) keys) (get_or keys i 0)
        old mid vs (subst AreDistinct (around keys i l) distinct) run stuck)

    pub values_all : (i : ℕ) (old new : List ℕ) (vs : List Values) → length keys ≤ i
        → IsRun (value_row letters) (FitsRow Fits) AnyText (take i keys) old vs new
        → IsRun (value_row letters) (FitsRow Fits) AnyText keys old vs new
    values_all i old new vs l run =
        subst (λ ks. IsRun (value_row letters) (FitsRow Fits) AnyText ks old vs new) (take_all i keys l) run

-- the words behind a tag and a key are lawful
pub lawful_rest : (text : List ℕ) (words rest : List Word) (letters : List ℕ) (z : ℤ) → AreFront text words
    → words ≡ tag letters ∷ number z ∷ rest → AreWords rest
lawful_rest text words rest letters z front is =
    (front_is text words (record { first = tag letters; rest = number z ∷ rest }) front is).lawful.1.1

-- ## What was read

pub found_value : (P Q : Values → Type 0) → P ≡ Q → (words : List Word) (found : Option Values) (v : Values)
    → found ≡ Some v → IsReadValue P words found → IsValueOf Q words v
found_value P Q e words found v is h =
    subst (λ R. IsValueOf R words v) e (subst (IsReadValue P words) is h)

pub missing_value : (P Q : Values → Type 0) → P ≡ Q → (words : List Word) (found : Option Values) → found ≡ None
    → IsReadValue P words found → IsNoValueOf Q words
missing_value P Q e words found is h = subst (λ R. IsNoValueOf R words) e (subst (IsReadValue P words) is h)
