-- The list of alarms.
use Rattle.std.specs.Prelude.{ℕ, List, [], ◌∷◌, ◌++◌, codes, decimal}
use Rattle.source_marks.specs.Names.{decoded}
use Rattle.page_pieces.specs.Composed.{composed}
use Rattle.page_pieces.specs.Pieces.{Piece, fixed, said}
use Rattle.page_pieces.specs.declared.markup.Markup.TheVariants.{Alarm, AlarmEnd, Linked, Rule, Sentence}
use Rattle.report_views.specs.Sentences.{rule_sentence, rule_text}
use Rattle.report_views.specs.Spots.{Spot}
use Rattle.report_views.specs.declared.spots.Finding.{Finding}

-- the first of some lines, or an empty one
abbrev pub first_of : List (List ℕ) → List ℕ
first_of [] = []
first_of (line ∷ lines) = line

abbrev pub rest_of : List (List ℕ) → List (List ℕ)
rest_of [] = []
rest_of (line ∷ lines) = lines

-- :LINE:COL
abbrev pub spot_place : Spot → List ℕ
spot_place spot = codes ":" ++ (decimal spot.line ++ (codes ":" ++ decimal spot.col))

-- FILE:LINE:COL, which leads to a line of the text
abbrev pub place_pieces : ℕ → Spot → List Piece
place_pieces number spot =
    fixed Alarm ∷ said (decimal number) ∷ fixed Linked ∷ said (decoded spot.name) ∷ said (spot_place spot) ∷ []

-- the class and what it says
abbrev pub rule_pieces : Spot → List Piece
rule_pieces spot = fixed Rule ∷ said (rule_text spot.rule) ∷ fixed Sentence ∷ said (rule_sentence spot.rule) ∷ []

-- an alarm at a line of the text: its place, its class, what it says, and notes
abbrev pub alarm_row : ℕ → Spot → List ℕ → List Piece
alarm_row number spot note =
    place_pieces number spot ++ (rule_pieces spot ++ (composed note ++ fixed AlarmEnd ∷ []))

-- a row for each alarm, in their order, with the line of the notes that is its own
abbrev pub alarm_rows : List Finding → List Spot → List (List ℕ) → List Piece
alarm_rows [] spots notes = []
alarm_rows (finding ∷ findings) [] notes = []
alarm_rows (finding ∷ findings) (spot ∷ spots) notes =
    alarm_row finding.place.line spot (first_of notes) ++ alarm_rows findings spots (rest_of notes)
