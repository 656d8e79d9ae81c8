-- Lines of values, each behind its key.
use Rattle.std.specs.Prelude.{ℕ, ◌<◌, ◌^◌, pos, List, [], ◌∷◌, Option, Some, None}
use Rattle.pointer_dom.specs.Values.{Values}
use Rattle.certificate_words.specs.Words.{tag, number, AreWords, Line}
use Rattle.certificate_parts.specs.Runs.{IsStep, IsStuck, IsRun, IsNoRun}
use Rattle.certificate_texts.specs.ValueWords.{value_words}

-- the line of a tag, a key and its value
abbrev pub value_line : List ℕ → ℕ → Values → Line
value_line letters key v = record { first = tag letters; rest = number (pos key) ∷ value_words v }

abbrev pub value_row : List ℕ → ℕ → Values → List Line
value_row letters key v = value_line letters key v ∷ []

-- the value may stand there, in a lawful line
pub record FitsRow (Fits : ℕ → Values → Type 0) (key : ℕ) (v : Values) : Type 0 where
  pub fits : Fits key v
  pub small : key < 2 ^ 64
  pub lawful : AreWords (value_words v)

-- each key has its line, whatever stands behind it
abbrev pub AnyText : ℕ → List ℕ → Type 0
AnyText key text = Unit {0}

-- the row of a key has been read; or none stands there
abbrev pub IsReadRow : List ℕ → (ℕ → Values → Type 0) → ℕ → List ℕ → Option Values → List ℕ → Type 0
IsReadRow letters Fits key old None new = IsStuck (value_row letters) (FitsRow Fits) AnyText key old
IsReadRow letters Fits key old (Some v) new = IsStep (value_row letters) (FitsRow Fits) AnyText key old v new

abbrev pub AreReadRows : List ℕ → (ℕ → Values → Type 0) → List ℕ → List ℕ → Option (List Values) → List ℕ → Type 0
AreReadRows letters Fits keys old None new = IsNoRun (value_row letters) (FitsRow Fits) AnyText keys old
AreReadRows letters Fits keys old (Some vs) new = IsRun (value_row letters) (FitsRow Fits) AnyText keys old vs new
