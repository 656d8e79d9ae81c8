-- What is read of a text, one after the other.
use Rattle.std.proofs.Common.{◌≡◌, sym, ap, ◌∙◌, ℕ, List, [], ◌∷◌, ◌++◌}
use Rattle.certificate_words.specs.Words.{Line, AreLines}
use Rattle.certificate_parts.specs.Runs.{lines_onto, rows, AllFit, AfterAll, IsRun, IsNoRun}
use Rattle.certificate_parts.proofs.Running.{onto_append}
use Rattle.certificate_reading.proofs.FirstLetters.{lines_split}

-- The lines of what is read, what it may be, and which texts may stand behind it.
module _ {Q : Type 0} (lines : Q → List Line) (Fits : Q → Type 0) (End : List ℕ → Type 0) where
  -- the lines stand in front of the text, and the new text behind them; and no others do
  pub record IsIn (old : List ℕ) (q : Q) (new : List ℕ) : Type 0 where
    pub fits : Fits q
    pub is : old ≡ lines_onto (lines q) new
    pub one : (r : Q) (more : List ℕ) → Fits r → AreLines (lines r) → End more → old ≡ lines_onto (lines r) more
        → (r ≡ q) × (more ≡ new)

  -- no lines stand in front of the text
  pub record IsNotIn (old : List ℕ) : Type 0 where
    pub never : (r : Q) (more : List ℕ) → Fits r → AreLines (lines r) → End more → old ≡ lines_onto (lines r) more → ⊥

-- ## Rows of keys

module _ {Z : Type 0} (row : ℕ → Z → List Line) (Fits : ℕ → Z → Type 0) (After : ℕ → List ℕ → Type 0)
    (End : List ℕ → Type 0) (after : (k : ℕ) (more : List ℕ) → End more → After k more) (keys : List ℕ) where
  pub after_all : (ks : List ℕ) (more : List ℕ) → End more → AfterAll row Fits After ks more
  after_all [] more end = tt
  after_all (k ∷ ks) more end = (after k more end, after_all ks more end)

  pub run_in : (old : List ℕ) (zs : List Z) (new : List ℕ) → IsRun row Fits After keys old zs new
      → IsIn (rows row Fits After keys) (AllFit row Fits After keys) End old zs new
  run_in old zs new run =
      record {
        fits = run.fits;
        is = run.is;
        one = λ ys more fits lawful end e. run.one ys more fits (after_all keys more end) e;
      }

  pub no_run_in : (old : List ℕ) → IsNoRun row Fits After keys old
      → IsNotIn (rows row Fits After keys) (AllFit row Fits After keys) End old
  no_run_in old none =
      record { never = λ ys more fits lawful end e. none.never ys more fits (after_all keys more end) e }

-- ## Two things

module _ {A B : Type 0} (first : A → List Line) (second : B → List Line) (FitsFirst : A → Type 0) (FitsSecond : B → Type 0)
    (Between End : List ℕ → Type 0)
    (between : (b : B) (more : List ℕ) → AreLines (second b) → End more → Between (lines_onto (second b) more)) where
  abbrev pub both_lines : A × B → List Line
  both_lines q = first q.0 ++ second q.1

  abbrev pub BothFit : A × B → Type 0
  BothFit q = FitsFirst q.0 × FitsSecond q.1

  -- what else stands there is the same in its first part
  first_same : (old mid : List ℕ) (a : A) → IsIn first FitsFirst Between old a mid → (r : A × B) (more : List ℕ)
      → BothFit r → AreLines (both_lines r) → End more → old ≡ lines_onto (both_lines r) more
      → (r.0 ≡ a) × (lines_onto (second r.1) more ≡ mid)
  first_same old mid a front r more fits lawful end e =
      let l = lines_split (first r.0) (second r.1) lawful in
      front.one r.0 (lines_onto (second r.1) more) fits.0 l.0 (between r.1 more l.1 end)
      (e ∙ onto_append (first r.0) (second r.1) more)

  pub both_in : (old mid new : List ℕ) (a : A) (b : B) → IsIn first FitsFirst Between old a mid
      → IsIn second FitsSecond End mid b new → IsIn both_lines BothFit End old (a, b) new
  both_in old mid new a b front behind =
      record {
        fits = (front.fits, behind.fits);
        is = front.is ∙ (ap (lines_onto (first a)) behind.is ∙ sym (onto_append (first a) (second b) new));
        one = same;
      }
    where
      same : (r : A × B) (more : List ℕ) → BothFit r → AreLines (both_lines r) → End more
          → old ≡ lines_onto (both_lines r) more → (r ≡ (a, b)) × (more ≡ new)
      same r more fits lawful end e =
          let f = first_same old mid a front r more fits lawful end e in
          let s = behind.one r.1 more fits.1 (lines_split (first r.0) (second r.1) lawful).1 end (sym f.1) in
          ((λ i. (f.0 i, s.0 i)), s.1)

  pub no_first : (old : List ℕ) → IsNotIn first FitsFirst Between old → IsNotIn both_lines BothFit End old
  no_first old none =
      record {
        never = λ r more fits lawful end e.
            (let l = lines_split (first r.0) (second r.1) lawful in
            none.never r.0 (lines_onto (second r.1) more) fits.0 l.0 (between r.1 more l.1 end)
            (e ∙ onto_append (first r.0) (second r.1) more));
      }

  pub no_second : (old mid : List ℕ) (a : A) → IsIn first FitsFirst Between old a mid → IsNotIn second FitsSecond End mid
      → IsNotIn both_lines BothFit End old
  no_second old mid a front none =
      record {
        never = λ r more fits lawful end e.
            none.never r.1 more fits.1 (lines_split (first r.0) (second r.1) lawful).1 end
            (sym (first_same old mid a front r more fits lawful end e).1);
      }
