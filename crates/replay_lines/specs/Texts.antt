-- The text of a replay: a line for each place that races, and a line that tells how the run ended.
use Rattle.std.specs.Prelude.{ℕ, List, ◌++◌, codes, decimal}
use Rattle.std.specs.List.{flat_map}
use Rattle.tm_cint.specs.declared.Class.{Class}
use Rattle.tm_terms.specs.declared.places.Place.{Place}
use Rattle.tm_terms.specs.Texts.{class_text, line_of, place_text}
use Rattle.replay_lines.specs.declared.endings.Ending.{Ending}
use Rattle.replay_lines.specs.declared.endings.Ending.TheVariants.{Ran, NotAllowed, Stopped}

-- LINE:COL RACE
abbrev pub race_line : Place → List ℕ
race_line place = line_of (place_text place ++ codes " RACE")

-- ran K
abbrev pub ran_line : ℕ → List ℕ
ran_line count = line_of (codes "ran " ++ decimal count)

-- notallowed K
abbrev pub not_allowed_line : ℕ → List ℕ
not_allowed_line choice = line_of (codes "notallowed " ++ decimal choice)

-- stopped K LINE:COL CLASS
abbrev pub stopped_line : ℕ → Class → Place → List ℕ
stopped_line choice class place =
    line_of (codes "stopped " ++ (decimal choice ++ (codes " " ++ (place_text place ++ (codes " "
    ++ class_text class)))))

abbrev pub ending_line : Ending → List ℕ
ending_line (Ran count) = ran_line count
ending_line (NotAllowed choice) = not_allowed_line choice
ending_line (Stopped choice class place) = stopped_line choice class place

abbrev pub replay_text : List Place → Ending → List ℕ
replay_text places ending = flat_map race_line places ++ ending_line ending
