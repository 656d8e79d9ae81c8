-- What the code finds of what a text tells of alarms before it compares.
use Rattle.std.specs.Prelude.{◌≡◌, ℕ, List, ◌∷◌, ◌++◌, codes, Option, Some, None, MatchOption, bytes_eq, if◌then◌else◌}
use Rattle.std.specs.Borrow.{Bor}
use Rattle.tm_terms.specs.Texts.{class_text, place_text}
use Rattle.report_reading.specs.declared.ways.Way.{Way as WayCode}
use Rattle.report_reading.specs.declared.ways.WayKind.{WayKind}
use Rattle.report_reading.specs.declared.ways.WayKind.TheVariants as Kinds
use Rattle.report_reading.specs.Ways.{AreTellable, Way, way_text, ways_text}

-- what the code holds, as the definitions see it
abbrev pub way_seen : WayCode → Way
way_seen way = record { place = way.place; class = way.class; kind = way.kind; site = way.site; said = way.said.now }

abbrev pub way_kind_of : List ℕ → Option WayKind
way_kind_of word =
    if bytes_eq word (codes "with") then Some Kinds.With
    else (if bytes_eq word (codes "path") then Some Kinds.Path
    else (if bytes_eq word (codes "call") then Some Kinds.Call
    else None))

-- what stands behind the kind of a way in its line, behind its class, and behind its place
abbrev pub behind_kind : Way → List ℕ
behind_kind w = place_text w.site ++ (32 ∷ w.said)

abbrev pub behind_class : Way → List ℕ
behind_class w = way_text w.kind ++ (32 ∷ behind_kind w)

abbrev pub behind_place : Way → List ℕ
behind_place w = class_text w.class ++ (32 ∷ behind_class w)

-- the line of a way, without its end
abbrev pub words_of : Way → List ℕ
words_of w = place_text w.place ++ (32 ∷ behind_place w)

-- a way in its line, and what follows
abbrev pub told_before : Way → List ℕ → List ℕ
told_before w rest = words_of w ++ (10 ∷ rest)

-- this way was found
abbrev pub IsSaid : Option WayCode → Way → Type 0
IsSaid found w = MatchOption found ⊥ (λ way. way_seen way ≡ w)

-- this way was found, and this is left
abbrev pub IsFirst : Option (WayCode × Bor (List ℕ)) → Way → List ℕ → Type 0
IsFirst found w rest = MatchOption found ⊥ (λ r. (way_seen r.0 ≡ w) × (r.1.now ≡ rest))

-- of these ways, those that were found come first, and the lines of the others are left
pub record AreUntold (list found : List Way) (left : List ℕ) : Type 0 where
  pub more : List Way
  pub are : list ≡ found ++ more
  pub can : AreTellable more
  pub lines : left ≡ ways_text more
