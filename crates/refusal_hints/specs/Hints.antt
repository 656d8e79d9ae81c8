-- What stands where a source is refused, by the words round the place.
use Rattle.std.specs.Prelude.{◌≡◌, ℕ, ◌==◌, ◌||◌, ◌&&◌, Bool, List, [], ◌∷◌, ◌++◌, Contains, length, take, drop, fold}
use Rattle.std.specs.Prelude.{find, true, Option, Some, option_map, option_and_then, bytes_eq, codes, if◌then◌else◌}
use Rattle.tm_terms.specs.declared.places.Place.{Place}
use Rattle.tm_terms.specs.declared.refusals.Kind.{Kind}
use Rattle.refusal_hints.specs.declared.constructs.Construct.{Construct}
use Rattle.refusal_hints.specs.Words.{words_from, words_of}
use Rattle.refusal_hints.specs.Places.{offset_of}
use Rattle.refusal_hints.specs.Patterns.{fits, fits_last}
use Rattle.refusal_hints.specs.Rows.{Row, rows_of}

-- a word behind which a declaration or a statement may begin
abbrev pub is_end : List ℕ → Bool
is_end word = bytes_eq word (codes ";") || bytes_eq word (codes "{") || bytes_eq word (codes "}")

-- the first word of a declaration or a statement, once one more word has stood; the empty one at its beginning
abbrev pub opening_behind : List ℕ → List ℕ → List ℕ
opening_behind first word = if is_end word then [] else (if length first == 0 then word else first)

-- the first word of the declaration or statement that these words end in
abbrev pub opening_of : List (List ℕ) → List ℕ
opening_of words = fold opening_behind [] words

-- the words at a place: those before it, behind an empty one for the beginning of the text, and those from it on
pub record Surroundings : Type 0 where
  pub before : List (List ℕ)
  pub behind : List (List ℕ)

-- those of which a pattern may say how often a word stands among them: those before the place, and that at the place
abbrev pub context_of : Surroundings → List (List ℕ)
context_of words = words.before ++ take 1 words.behind

-- the patterns of a row stand there
abbrev pub stands : Surroundings → Row → Bool
stands words row =
    fits (context_of words) (words_of row.opening) (opening_of words.before ∷ [])
    && (fits_last (context_of words) (words_of row.before) words.before
    && fits (context_of words) (words_of row.behind) words.behind)

-- what the first row says that stands there
abbrev pub construct_among : Surroundings → List Row → Option Construct
construct_among words rows = option_map (λ row. row.construct) (find (stands words) rows)

-- the words of a text at its byte of this number
abbrev pub surroundings_of : List ℕ → ℕ → Surroundings
surroundings_of text n = record { before = [] ∷ words_of (take n text); behind = words_from (drop n text) }

-- what stands at a place of a text that is refused there
abbrev pub construct_at : List ℕ → Place → Kind → Option Construct
construct_at text place kind =
    option_and_then (λ n. construct_among (surroundings_of text n) (rows_of kind)) (offset_of text place)

-- a construct of one of the rows, the patterns of which stand there
pub record IsFitting (text : List ℕ) (place : Place) (kind : Kind) (construct : Construct) : Type 0 where
  pub offset : ℕ
  pub there : offset_of text place ≡ Some offset
  pub row : Row
  pub among : Contains (rows_of kind) row
  pub named : row.construct ≡ construct
  pub fitting : stands (surroundings_of text offset) row ≡ true
