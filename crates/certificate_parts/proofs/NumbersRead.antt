-- The line of a tag, a key and a number stands there, or not.
use Rattle.std.proofs.Common.{◌≡◌, refl, sym, ap, subst, ◌∙◌, ℕ, ◌+◌, ◌<◌, ◌^◌, ℤ, pos, Bool, true, false, List, [], ◌∷◌, ◌++◌}
use Rattle.std.proofs.Common.{length, take, get_or, Option, Some, None}
use Rattle.std.specs.Prelude.{◌==◌}
use Rattle.certificate_words.specs.Words.{Word, tag, number, Line, IsLine, line_onto}
use Rattle.certificate_words.specs.declared.words.Word.{Word as Held}
use Rattle.certificate_words.specs.Lines.{word_of, words_of}
use Rattle.certificate_words.proofs.OneText as texts
use Rattle.certificate_parts.specs.declared.rows.Allowed.{Allowed}
use Rattle.certificate_parts.specs.Fronts.{AreFront, IsBehind}
use Rattle.certificate_parts.specs.Runs.{lines_onto, IsStep, IsRun, AreDistinct}
use Rattle.certificate_parts.specs.Rows.{IsTag}
use Rattle.certificate_parts.specs.Numbers.{pair_line, IsPair, IsNoPair, number_row, FitsNumber}
use Rattle.certificate_parts.specs.Numbers.{number_after}
use Rattle.certificate_parts.proofs.Fronting.{front_is, one_front, stepped}
use Rattle.certificate_parts.proofs.Running.{run_more}
use Rattle.certificate_parts.proofs.RowsRead.{new_key, take_one}

module _ (letters : List ℕ) (tagged : IsTag letters) where
  pub pair_lawful : (key n : ℕ) → key < 2 ^ 64 → n < 2 ^ 64 → IsLine (pair_line letters key n)
  pair_lawful key n h k = (tagged, (h, (k, tt)))

  pub same_key : (d k n m : ℕ) → pair_line letters d n ≡ pair_line letters k m → (d ≡ k) × (n ≡ m)
  same_key d k n m e =
      let ws : number (pos d) ∷ number (pos n) ∷ [] ≡ number (pos k) ∷ number (pos m) ∷ [] = ap (λ (l : Line). l.rest) e in
      let a : number (pos d) ≡ number (pos k) = cc in
      let b : number (pos n) ≡ number (pos m) = cc in
      let x : pos d ≡ pos k = cc in
      let y : pos n ≡ pos m = cc in
      ((let f : d ≡ k = cc in f), (let f : n ≡ m = cc in f))

  module _ (allowed : Allowed) where
    pub numbers_apart : (d k : ℕ) (y : Option ℕ) (more : List ℕ) → (d ≡ k → ⊥) → FitsNumber allowed k y
        → number_after letters d more → number_after letters d (lines_onto (number_row letters k y) more)
    numbers_apart d k None more other f a = a
    numbers_apart d k (Some m) more other f a =
        record {
          never = λ n rest lawful e.
              other (same_key d k n m (sym (texts.line (pair_line letters k m) (pair_line letters d n) more rest
              (pair_lawful k m f.0 f.1) lawful e).0)).0;
        }

    -- the line has been stepped over
    pub pair_step : (key n : ℕ) (old new : List ℕ) (words : List Word) → key < 2 ^ 64 → AreFront old words
        → IsPair allowed words letters key n → IsBehind old new
        → IsStep (number_row letters) (FitsNumber allowed) (number_after letters) key old (Some n) new
    pair_step key n old new words small front pair behind =
        record { fits = (small, pair.small, pair.allowed_is); is = is; one = by_number }
      where
        is : old ≡ line_onto (pair_line letters key n) new
        is = stepped old new (pair_line letters key n) (front_is old words (pair_line letters key n) front pair.is) behind

        by_number : (y : Option ℕ) (more : List ℕ) → FitsNumber allowed key y → number_after letters key more
            → old ≡ lines_onto (number_row letters key y) more → (y ≡ Some n) × (more ≡ new)
        by_number None more f a e = absurd (a.never n new (pair_lawful key n small pair.small) (sym e ∙ is))
        by_number (Some m) more f a e =
            let t = texts.line (pair_line letters key m) (pair_line letters key n) more new (pair_lawful key m f.0 f.1)
            (pair_lawful key n small pair.small) (sym e ∙ is) in
            (ap Some (same_key key key m n t.0).1, t.1)

    -- there is no such line
    pub no_pair_step : (key : ℕ) (old : List ℕ) (words : List Word) → key < 2 ^ 64 → AreFront old words
        → IsNoPair allowed words letters key
        → IsStep (number_row letters) (FitsNumber allowed) (number_after letters) key old None old
    no_pair_step key old words small front none =
        record { fits = small; is = refl; one = by_number }
      where
        by_number : (y : Option ℕ) (more : List ℕ) → FitsNumber allowed key y → number_after letters key more
            → old ≡ lines_onto (number_row letters key y) more → (y ≡ None) × (more ≡ old)
        by_number None more f a e = (refl, sym e)
        by_number (Some m) more f a e =
            absurd (none.never m f.1 f.2 (one_front old words (pair_line letters key m) more front
            (pair_lawful key m f.0 f.1) e))

    module _ (keys : List ℕ) (distinct : AreDistinct keys) where
      pub numbers_more : (i : ℕ) (old mid new : List ℕ) (numbers now : List (Option ℕ)) (z : Option ℕ) → i < length keys
          → IsRun (number_row letters) (FitsNumber allowed) (number_after letters) (take i keys) old numbers mid
          → IsStep (number_row letters) (FitsNumber allowed) (number_after letters) (get_or keys i 0) mid z new
          → now ≡ numbers ++ z ∷ []
          → IsRun (number_row letters) (FitsNumber allowed) (number_after letters) (take (i + 1) keys) old now new
      numbers_more i old mid new numbers now z l run step e =
          let more = run_more (number_row letters) (FitsNumber allowed) (number_after letters) numbers_apart (take i keys)
          (get_or keys i 0) old mid new numbers z (new_key keys i l distinct) run step in
          subst (λ ks. IsRun (number_row letters) (FitsNumber allowed) (number_after letters) ks old now new)
          (sym (take_one keys i l))
          (subst (λ ns. IsRun (number_row letters) (FitsNumber allowed) (number_after letters)
          (take i keys ++ get_or keys i 0 ∷ []) old ns new) (sym e) more)

-- ## More words than three

tail : {a b : Word} {x y : List Word} → a ∷ x ≡ b ∷ y → x ≡ y
tail e = cc

two_words : (v w u : Word) (ws : List Word) → v ∷ w ∷ ws ≡ u ∷ [] → ⊥
two_words v w u ws e = let f : w ∷ ws ≡ [] = tail e in cc

pub more_behind : (allowed : Allowed) (words : List Word) (letters : List ℕ) (key : ℕ) (x z : ℤ) (more : List Word)
    (rest : List Held) (b : Bool) → words ≡ tag letters ∷ number x ∷ more → more ≡ number z ∷ words_of rest
    → b ≡ (length rest == 0) → b ≡ false → IsNoPair allowed words letters key
more_behind allowed words letters key x z more [] b is at e f =
    record { never = λ n s a i. (let t : true ≡ false = sym e ∙ f in cc) }
more_behind allowed words letters key x z more (w ∷ ws) b is at e f =
    record {
      never = λ n s a i. two_words (number z) (word_of w) (number (pos n)) (words_of ws) (sym at ∙ tail (tail (sym is ∙ i)));
    }
