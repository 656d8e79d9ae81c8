-- How many alarms each class has.
use Rattle.std.specs.Prelude.{ℕ, List, ◌++◌, length, count_by, codes, decimal, bytes_eq}
use Rattle.std.specs.List.{flat_map}
use Rattle.tm_cint.specs.declared.Class.{Class}
use Rattle.tm_terms.specs.Texts.{class_text, count_line, line_of}
use Rattle.report_views.specs.Sentences.{classes, rule_text}
use Rattle.report_views.specs.Spots.{Spot}

-- how many of these alarms have a class
abbrev pub count_of : List Spot → Class → ℕ
count_of spots class = count_by (λ spot. bytes_eq (rule_text spot.rule) (class_text class)) spots

-- CLASS N
abbrev pub class_line : List Spot → Class → List ℕ
class_line spots class = line_of (class_text class ++ (codes " " ++ decimal (count_of spots class)))

-- a line for each class, and then the number of all alarms
abbrev pub summary_text : List Spot → List ℕ
summary_text spots = flat_map (class_line spots) classes ++ count_line (length spots)
