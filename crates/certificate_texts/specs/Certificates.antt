-- The text of a certificate: a source, and tables and a store of its program.
use Rattle.std.specs.Prelude.{◌≡◌, ℕ, ◌-◌, ◌<◌, ◌≤◌, pos, List, [], ◌∷◌, ◌++◌, length, take, Some}
use Rattle.std.specs.Prelude.{codes, slice_get}
use Rattle.std.specs.List.{flat_map, enumerate_from}
use Rattle.post_recheck.specs.Pairs.{Pair}
use Rattle.certificate_words.specs.Words.{number, Line, lines_text}
use Rattle.certificate_texts.specs.Limits.{certificate_limit}
use Rattle.certificate_texts.specs.StateLines.{tagged, numbered}
use Rattle.certificate_texts.specs.TableLines.{table_lines}
use Rattle.certificate_texts.specs.StoreLines.{store_lines}
use Rattle.certificate_texts.specs.declared.certificates.Written.{Written}
use Rattle.certificate_texts.specs.declared.certificates.Written.TheVariants.{Text, TooLong}

-- ## Lines

-- the tables in order, the store, and end
abbrev pub pair_lines : Pair → List Line
pair_lines pair =
    flat_map table_lines (enumerate_from 0 pair.tables) ++ (store_lines pair.store ++ (tagged (codes "end") [] ∷ []))

-- ## The text

-- tmcert 1; source N, for a source of so many bytes
abbrev pub head_lines : ℕ → List Line
head_lines count = tagged (codes "tmcert") (number (pos 1) ∷ []) ∷ numbered (codes "source") count ∷ []

abbrev pub head_text : ℕ → List ℕ
head_text count = lines_text (head_lines count)

-- the head, the source, byte 10, and what is told of the program
abbrev pub certificate_text : List ℕ → Pair → List ℕ
certificate_text source pair = head_text (length source) ++ (source ++ (10 ∷ lines_text (pair_lines pair)))

-- the text, where it is within the limit
abbrev pub IsWritten : List ℕ → Pair → Written → Type 0
IsWritten source pair (Text text) =
    (text.items ≡ certificate_text source pair) × (length text.items ≤ certificate_limit)
IsWritten source pair TooLong = certificate_limit < length (certificate_text source pair)

-- ## The source in it

-- The source stands from start to end: the head is before it, which tells how many bytes it has, and byte 10 is behind.
pub record IsSplit (bytes : List ℕ) (start end : ℕ) : Type 0 where
  pub order : start ≤ end
  pub head : take start bytes ≡ head_text (end - start)
  pub behind : slice_get bytes end ≡ Some 10
