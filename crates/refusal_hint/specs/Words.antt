-- Which words are a command, each a list of bytes behind the program's name.
use Rattle.std.specs.Prelude.{ℕ, List, [], ◌∷◌, codes, Option, Some, None, option_map, option_and_then, bytes_eq}
use Rattle.std.specs.Prelude.{if◌then◌else◌}
use Rattle.cmd_words.specs.Numbers.{number_of}
use Rattle.tm_terms.specs.declared.places.Place.{Place}
use Rattle.tm_terms.specs.declared.refusals.Kind.{Kind}
use Rattle.tm_terms.specs.declared.refusals.Kind.TheVariants as kind

-- the kind that a word names, of those of which a hint may tell
abbrev pub kind_of : List ℕ → Option Kind
kind_of word =
    if bytes_eq word (codes "Lexical") then Some kind.Lexical
    else (if bytes_eq word (codes "Unsupported") then Some kind.Unsupported
    else (if bytes_eq word (codes "Syntax") then Some kind.Syntax
    else (if bytes_eq word (codes "Undeclared") then Some kind.Undeclared
    else (if bytes_eq word (codes "Mismatch") then Some kind.Mismatch
    else (if bytes_eq word (codes "NotConstant") then Some kind.NotConstant
    else None)))))

-- what a command asks for: the place and the kind of a refusal
pub record Asked : Type 0 where
  pub place : Place
  pub kind : Kind

-- a line, a column and a kind; no other words are a command
abbrev pub asked_of : List (List ℕ) → Option Asked
asked_of (line ∷ col ∷ word ∷ []) =
    option_and_then
    (λ l. option_and_then
    (λ c. option_map (λ k. record { place = record { line = l; col = c }; kind = k }) (kind_of word)) (number_of col))
    (number_of line)
asked_of _ = None
