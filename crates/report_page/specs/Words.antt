-- Which words are a command, each a list of bytes behind the program's name.
use Rattle.std.specs.Prelude.{ℕ, List, [], ◌∷◌, Option, Some, None}

-- what a command asks for
pub record Asked : Type 0 where
  pub text : List ℕ
  pub name : List ℕ
  pub tables : List ℕ
  pub notes : List ℕ
  pub lines : List ℕ
  pub remarks : List ℕ

-- the file that holds the text, the name of the file from which its first line comes, and the files that hold the
-- tables, the notes, the lines and the remarks; no other words are a command
abbrev pub asked_of : List (List ℕ) → Option Asked
asked_of (text ∷ name ∷ tables ∷ notes ∷ lines ∷ remarks ∷ []) =
    Some (record {
      text = text;
      name = name;
      tables = tables;
      notes = notes;
      lines = lines;
      remarks = remarks;
    })
asked_of _ = None
