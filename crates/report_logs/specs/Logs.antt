-- The log of a report, its waits, its dead places and the assumptions, and of what is told of its alarms.
use Rattle.std.specs.Prelude.{◌≡◌, ℕ, List, [], ◌∷◌, length, map, sum, Some}
use Rattle.source_marks.specs.Marks.{Origin}
use Rattle.source_marks.specs.Names.{decoded}
use Rattle.place_details.specs.Details.{AreDetails, Sight, region_of}
use Rattle.place_details.specs.declared.regions.Region.{Region}
use Rattle.report_reading.specs.Ways.{Way}
use Rattle.report_views.specs.Causes.{Answers, AreFindings, AreOrigins, AreWaysOf}
use Rattle.report_views.specs.Sentences.{rule_text}
use Rattle.report_views.specs.Shares.{cut, shares, site_of}
use Rattle.report_views.specs.Spots.{Spot, spots_of}
use Rattle.report_views.specs.declared.spots.Finding.{Finding}
use Rattle.report_logs.specs.Sarif.{sarif_text, told_of, ways_told}

-- what is asked of a place: where it is found, in which file, and by which rule
abbrev pub sight_of : Finding → Spot → Sight
sight_of finding spot = record { place = finding.place; name = spot.name; word = rule_text finding.rule }

abbrev pub sights_of : List Finding → List Spot → List Sight
sights_of (finding ∷ findings) (spot ∷ spots) = sight_of finding spot ∷ sights_of findings spots
sights_of _ _ = []

-- the log of findings of a text in their files, and of what is told of them, of which each has this many, where these
-- lines of the files are at hand: a result for each finding. Names of folders and files are as line marks spell them.
pub record IsWritten (documents folder name text lines : List ℕ) (findings : List Finding) (ways : List Way)
    (counts : List ℕ) (spots sites : List Spot) (log : List ℕ) : Type 0 where
  pub regions : List Region
  pub site_regions : List Region
  pub functions : List (List ℕ)
  pub fingerprints : List (List ℕ)
  pub details : AreDetails (decoded folder) text lines (sights_of findings spots) regions functions fingerprints
  pub in_lines : site_regions ≡ map (region_of text lines) (sights_of (map site_of ways) sites)
  pub written : log ≡ sarif_text (decoded documents) (decoded name) spots sites
      (told_of spots regions functions fingerprints (cut counts (ways_told ways sites site_regions)))

-- the log of findings, and of what is told of them, where the lines of their text have these origins: each at its place
-- in its file
pub record IsLogged (documents folder name text lines : List ℕ) (origins : List Origin) (findings : List Finding)
    (ways : List Way) (counts : List ℕ) (log : List ℕ) : Type 0 where
  pub spots : List Spot
  pub sites : List Spot
  pub placed : spots_of origins findings ≡ Some spots
  pub sited : spots_of origins (map site_of ways) ≡ Some sites
  pub written : IsWritten documents folder name text lines findings ways counts spots sites log

-- the log of answers over a text, whose first file has this name: a result for each alarm of the report, then one for
-- each lock that the waits list, then one for each dead place, then one for each assumption, all in their order and at
-- the places that the line marks of the text give. What is told stands at the alarm of which it is told, and nothing of
-- it is left
pub record IsLog (documents folder name : List ℕ) (answers : Answers) (text lines log : List ℕ) : Type 0 where
  pub findings : List Finding
  pub ways : List Way
  pub origins : List Origin
  pub reads : AreFindings answers findings
  pub reads_ways : AreWaysOf answers.ways ways
  pub all_told : sum (shares findings ways) ≡ length ways
  pub marks : AreOrigins name text origins
  pub logged : IsLogged documents folder name text lines origins findings ways (shares findings ways) log
