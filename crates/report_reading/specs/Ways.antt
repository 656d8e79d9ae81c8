-- The text that tells of alarms with which accesses each races, and on what ways control comes to it.
use Rattle.std.specs.Prelude.{◌≡◌, ℕ, List, [], ◌∷◌, ◌++◌, codes, Contains, IsUtf8}
use Rattle.std.specs.List.{flat_map}
use Rattle.tm_cint.specs.declared.Class.{Class}
use Rattle.tm_terms.specs.declared.places.Place.{Place}
use Rattle.tm_terms.specs.Texts.{class_text, line_of, place_text}
use Rattle.report_reading.specs.declared.ways.WayKind.{WayKind}
use Rattle.report_reading.specs.declared.ways.WayKind.TheVariants as Kinds
use Rattle.report_reading.specs.Listings.{HasSmallNumbers}

-- one thing that is told of the alarm of a class at a place: what it is, where that stands, and a sentence
pub record Way : Type 0 where
  pub place : Place
  pub class : Class
  pub kind : WayKind
  pub site : Place
  pub said : List ℕ

-- the word of a kind: what an alarm races with, or where it is declared; a call path from its innermost place; and a
-- call of this path, from the innermost one on
abbrev pub way_text : WayKind → List ℕ
way_text Kinds.With = codes "with"
way_text Kinds.Path = codes "path"
way_text Kinds.Call = codes "call"

-- LINE:COL CLASS KIND LINE:COL SENTENCE
abbrev pub way_line : Way → List ℕ
way_line w =
    line_of (place_text w.place ++ (codes " " ++ (class_text w.class ++ (codes " " ++ (way_text w.kind
    ++ (codes " " ++ (place_text w.site ++ (codes " " ++ w.said))))))))

-- a line for each
abbrev pub ways_text : List Way → List ℕ
ways_text ways = flat_map way_line ways

-- its places have numbers of 32 bits, as those of the analyser have, and its sentence stands in one line
abbrev pub IsTellable : Way → Type 0
IsTellable w = HasSmallNumbers w.place × HasSmallNumbers w.site × (Contains w.said 10 → ⊥)

abbrev pub AreTellable : List Way → Type 0
AreTellable [] = Unit {0}
AreTellable (w ∷ ways) = IsTellable w × AreTellable ways

-- the text is no UTF-8, or tells no such things
abbrev pub IsNoWays : List ℕ → Type 0
IsNoWays text = IsUtf8 text → (ways : List Way) → AreTellable ways → text ≡ ways_text ways → ⊥
