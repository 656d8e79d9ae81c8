-- Which words are a command, each a list of bytes behind the program's name.
use Rattle.std.specs.Prelude.{ℕ, Bool, false, List, [], ◌∷◌, codes, Option, Some, None, option_map, bytes_eq}
use Rattle.std.specs.Prelude.{option_and_then, if◌then◌else◌}
use Rattle.cmd_words.specs.Numbers.{number_of}
use Rattle.report_logs.specs.Refusals.{Refusal}
use Rattle.report_views.specs.declared.views.Form.{Form}
use Rattle.report_views.specs.declared.views.Form.TheVariants.{Lines, Summary}

-- the form that a word asks for
abbrev pub form_of : List ℕ → Option Form
form_of word =
    if bytes_eq word (codes "--lines") then Some Lines
    else (if bytes_eq word (codes "--summary") then Some Summary
    else None)

-- what a command that asks for a view asks for
pub record Asked : Type 0 where
  pub form : Form
  pub text : List ℕ
  pub name : List ℕ

-- a form, the file that holds the text, and the name of the file from which its first line comes; no other words ask
-- for a view
abbrev pub asked_of : List (List ℕ) → Option Asked
asked_of (word ∷ file ∷ first ∷ []) =
    option_map (λ form. record { form = form; text = file; name = first }) (form_of word)
asked_of _ = None

-- `--rules` alone asks for what the rules say
abbrev pub ask_for_rules : List (List ℕ) → Bool
ask_for_rules (word ∷ []) = bytes_eq word (codes "--rules")
ask_for_rules _ = false

-- what a command that asks for a log asks for
pub record AskedLog : Type 0 where
  pub text : List ℕ
  pub name : List ℕ
  pub waits : List ℕ
  pub dead : List ℕ
  pub assumptions : List ℕ
  pub ways : List ℕ
  pub lines : List ℕ
  pub folder : List ℕ
  pub documents : List ℕ

-- `--sarif`, the file that holds the text, the name of the file from which its first line comes, the files that hold the
-- texts of the waits, of the dead places, of the assumptions and of the ways and the lines of the files from which those
-- of the text come, the folder from which names of files are seen, and that of the documents; no other words ask for a log
abbrev pub asked_log_of : List (List ℕ) → Option AskedLog
asked_log_of (word ∷ file ∷ first ∷ waits ∷ dead ∷ assumptions ∷ ways ∷ lines ∷ folder ∷ documents ∷ []) =
    if bytes_eq word (codes "--sarif")
    then Some (record {
      text = file;
      name = first;
      waits = waits;
      dead = dead;
      assumptions = assumptions;
      ways = ways;
      lines = lines;
      folder = folder;
      documents = documents;
    })
    else None
asked_log_of _ = None

-- what a command that asks for the log of a refusal asks for
pub record AskedRefusal : Type 0 where
  pub text : List ℕ
  pub name : List ℕ
  pub lines : List ℕ
  pub documents : List ℕ
  pub line : List ℕ
  pub col : List ℕ
  pub word : List ℕ
  pub said : List ℕ

-- `--refusal`, the file that holds the text, the name of the file from which its first line comes, the file that holds
-- the lines of the files from which those of the text come, the folder of the documents, and a line, a column, the word
-- of a kind and what it means; no other words ask for such a log
abbrev pub asked_refusal_of : List (List ℕ) → Option AskedRefusal
asked_refusal_of (word ∷ file ∷ first ∷ lines ∷ documents ∷ line ∷ col ∷ kind ∷ said ∷ []) =
    if bytes_eq word (codes "--refusal")
    then Some (record {
      text = file;
      name = first;
      lines = lines;
      documents = documents;
      line = line;
      col = col;
      word = kind;
      said = said;
    })
    else None
asked_refusal_of _ = None

-- the refusal that words tell: a line, a column, the word of a kind, and what it means
abbrev pub refusal_of : List ℕ → List ℕ → List ℕ → List ℕ → Option Refusal
refusal_of line col word said =
    option_and_then
    (λ l. option_map (λ c. record { place = record { line = l; col = c }; word = word; said = said }) (number_of col))
    (number_of line)
