-- The bytes of a replay are a source, then a line `#replay`, and behind it a line for each choice. A line ends at a
-- byte 10, or at the end of the bytes.
use Rattle.std.specs.Prelude.{ℕ, ◌==◌, ◌&&◌, Bool, true, List, [], ◌∷◌, codes, if◌then◌else◌}
use Rattle.std.specs.Prelude.{Option, Some, None, option_map}
use Rattle.std.specs.List.{before_first, after_first}
use Rattle.std.specs.Str.{bytes_eq}

abbrev pub is_newline : ℕ → Bool
is_newline b = b == 10

-- the line behind which the choices stand
abbrev pub mark : List ℕ
mark = codes "#replay"

-- the first line is that one
abbrev pub begins_mark : List ℕ → Bool
begins_mark bytes = bytes_eq (before_first is_newline bytes) mark

-- what stands before the first such line, and what behind it
pub record Cut : Type 0 where
  pub source : List ℕ
  pub choices : List ℕ

abbrev pub onto : ℕ → Cut → Cut
onto b c = record c { source = b ∷ c.source }

-- the bytes cut at the first such line; where `fresh`, a line begins with these bytes
abbrev pub cut_from : Bool → List ℕ → Option Cut
cut_from fresh [] = None
cut_from fresh (b ∷ bs) =
    if fresh && begins_mark (b ∷ bs)
    then Some (record { source = []; choices = after_first is_newline (b ∷ bs) })
    else option_map (onto b) (cut_from (is_newline b) bs)

abbrev pub cut : List ℕ → Option Cut
cut bytes = cut_from true bytes

abbrev pub source_by : Option Cut → List ℕ → List ℕ
source_by None bytes = bytes
source_by (Some c) bytes = c.source

-- the source: what stands before that line, or all bytes where there is none
abbrev pub source_of : List ℕ → List ℕ
source_of bytes = source_by (cut bytes) bytes
