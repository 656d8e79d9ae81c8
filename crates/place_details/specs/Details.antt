-- What is told of places: by the text, the lines of the files from which its lines come, as far as these are at hand, and
-- the folder from which names of files are seen.
use Rattle.std.specs.Prelude.{◌≡◌, ℕ, ◌==◌, List, length, map, if◌then◌else◌}
use Rattle.tm_terms.specs.declared.places.Place.{Place}
use Rattle.source_marks.specs.Names.{decoded}
use Rattle.place_details.specs.Fingerprints.{fingerprints_of, front_of, relative}
use Rattle.place_details.specs.Functions.{function_at}
use Rattle.place_details.specs.Regions.{region_at}
use Rattle.place_details.specs.TextLines.{line_of, offset_of}
use Rattle.place_details.specs.declared.regions.Region.{Region}

-- a place of the text, the name of its file as a line mark spells it, and the word of the rule that found it
pub record Sight : Type 0 where
  pub place : Place
  pub name : List ℕ
  pub word : List ℕ

-- the function in which a place stands
abbrev pub function_of : List ℕ → Sight → List ℕ
function_of text sight = function_at text (offset_of text sight.place)

module _ (text lines : List ℕ) where
  -- where a place begins and ends in its line of the file, which has the number that its line of the text has
  abbrev pub region_of : Sight → Region
  region_of sight = region_at (line_of lines sight.place.line) (line_of text sight.place.line) sight.place.col

  -- the line of the file, or that of the text where the file is not at hand
  abbrev pub known_line : ℕ → List ℕ
  known_line number = if length (line_of lines number) == 0 then line_of text number else line_of lines number

-- what stays the same of a place when other lines move
abbrev pub front_at : List ℕ → List ℕ → List ℕ → Sight → List ℕ
front_at folder text lines sight =
    front_of sight.word (relative folder (decoded sight.name)) (function_of text sight)
    (known_line text lines sight.place.line)

-- what is told of places, each in three lists: their regions, their functions and their fingerprints
pub record AreDetails (folder text lines : List ℕ) (sights : List Sight) (regions : List Region)
    (functions fingerprints : List (List ℕ)) : Type 0 where
  pub in_lines : regions ≡ map (region_of text lines) sights
  pub in_functions : functions ≡ map (function_of text) sights
  pub told_again : fingerprints ≡ fingerprints_of (map (front_at folder text lines) sights)
