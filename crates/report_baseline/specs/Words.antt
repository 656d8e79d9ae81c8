-- Which words are a command, each a list of bytes behind the program's name.
use Rattle.std.specs.Prelude.{ℕ, List, [], ◌∷◌, codes, Option, Some, None, option_map, bytes_eq, if◌then◌else◌}
use Rattle.report_baseline.specs.declared.words.Form.{Form}
use Rattle.report_baseline.specs.declared.words.Form.TheVariants.{Log, Standings}

-- the form that a word asks for
abbrev pub form_of : List ℕ → Option Form
form_of word =
    if bytes_eq word (codes "--log") then Some Log
    else (if bytes_eq word (codes "--standings") then Some Standings
    else None)

-- what a command asks for
pub record Asked : Type 0 where
  pub form : Form
  pub new : List ℕ
  pub remarks : List ℕ
  pub old : List ℕ

-- a form, and the files that hold the new log, the remarks and the old log; no other words are a command
abbrev pub asked_of : List (List ℕ) → Option Asked
asked_of (word ∷ new ∷ remarks ∷ old ∷ []) =
    option_map (λ form. record { form = form; new = new; remarks = remarks; old = old }) (form_of word)
asked_of _ = None
