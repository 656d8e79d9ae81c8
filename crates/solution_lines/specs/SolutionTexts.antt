-- The texts that `waits` and `ranges` print. Lines, columns and numbers stand in decimal.
use Rattle.std.specs.Prelude.{ℕ, ℤ, List, ◌++◌, length, codes, decimal}
use Rattle.std.specs.Fmt.{signed_decimal}
use Rattle.std.specs.List.{flat_map}
use Rattle.tm_terms.specs.declared.places.Place.{Place}
use Rattle.tm_terms.specs.Texts.{line_of, place_head, place_text}

-- ## Circular waits

-- LINE:COL WAIT
abbrev pub wait_line : Place → List ℕ
wait_line place = line_of (place_text place ++ codes " WAIT")

-- waits N
abbrev pub waits_count_line : ℕ → List ℕ
waits_count_line count = line_of (codes "waits " ++ decimal count)

-- the line of each place, and then their number
abbrev pub waits_text : List Place → List ℕ
waits_text places = flat_map wait_line places ++ waits_count_line (length places)

-- ## Ranges

abbrev pub number_texts : ℤ → ℤ → List ℕ
number_texts low high = line_of (codes " " ++ (signed_decimal low ++ (codes " " ++ signed_decimal high)))

-- LINE:COL NAME LEAST GREATEST
abbrev pub range_line : Place → List ℕ → ℤ → ℤ → List ℕ
range_line place name low high = place_head place ++ (name ++ number_texts low high)

-- ## Dead places

-- LINE:COL DEAD
abbrev pub dead_line : Place → List ℕ
dead_line place = line_of (place_text place ++ codes " DEAD")

-- dead N
abbrev pub dead_count_line : ℕ → List ℕ
dead_count_line count = line_of (codes "dead " ++ decimal count)

-- the line of each place, and then their number
abbrev pub dead_text : List Place → List ℕ
dead_text places = flat_map dead_line places ++ dead_count_line (length places)
