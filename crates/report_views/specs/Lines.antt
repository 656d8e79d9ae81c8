-- Alarms as compilers print them: a line FILE:LINE:COL: LEVEL: SENTENCE [RULE] for each, and then their number.
use Rattle.std.specs.Prelude.{ℕ, ◌+◌, ◌/◌, ◌%◌, ◌==◌, ◌||◌, List, [], ◌∷◌, ◌++◌, length, nat_lt, codes, decimal}
use Rattle.std.specs.Prelude.{if◌then◌else◌}
use Rattle.std.specs.List.{flat_map}
use Rattle.tm_terms.specs.Texts.{count_line, line_of}
use Rattle.source_marks.specs.Names.{decoded}
use Rattle.report_views.specs.Sentences.{level_text, rule_sentence, rule_text}
use Rattle.report_views.specs.declared.sentences.Rule.{Rule}
use Rattle.report_views.specs.Spots.{Spot}

-- a byte of a name as it is shown: one that would break a line, below 32 or 127, as `\` and three octal digits
abbrev pub shown_byte : ℕ → List ℕ
shown_byte b =
    if nat_lt b 32 || b == 127 then 92 ∷ (48 + b / 64) ∷ (48 + b / 8 % 8) ∷ (48 + b % 8) ∷ []
    else b ∷ []

-- the name of a file as it is shown
abbrev pub shown : List ℕ → List ℕ
shown name = flat_map shown_byte name

-- :LINE:COL and a colon and a blank
abbrev pub place_in : Spot → List ℕ
place_in spot = codes ":" ++ (decimal spot.line ++ (codes ":" ++ (decimal spot.col ++ codes ": ")))

-- LEVEL: SENTENCE [RULE]
abbrev pub rule_line : Rule → List ℕ
rule_line rule =
    line_of (level_text rule ++ (codes ": " ++ (rule_sentence rule ++ (codes " [" ++ (rule_text rule ++ codes "]")))))

-- FILE:LINE:COL: LEVEL: SENTENCE [RULE]
abbrev pub spot_line : Spot → List ℕ
spot_line spot = shown (decoded spot.name) ++ (place_in spot ++ rule_line spot.rule)

-- a line for each alarm, and then their number
abbrev pub lines_text : List Spot → List ℕ
lines_text spots = flat_map spot_line spots ++ count_line (length spots)
