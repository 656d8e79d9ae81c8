-- What the code holds, as the definitions see it.
use Rattle.std.specs.Prelude.{◌≡◌, ℕ, Bool, List, length, map, sum, bytes_eq, is_some, String}
use Rattle.std.specs.Borrow.{Bor}
use Rattle.std.specs.HashMap.{HashMap, get_by}
use Rattle.std.specs.List.{list_any}
use Rattle.std.specs.declared.alloc.Global.{Global}
use Rattle.place_details.specs.declared.regions.Region.{Region}
use Rattle.place_details.specs.Details.{region_of}
use Rattle.place_details.specs.reading.Seen.{bytes_seen}
use Rattle.report_reading.specs.Ways.{Way}
use Rattle.report_views.specs.Causes.{Answers}
use Rattle.report_views.specs.Shares.{site_of}
use Rattle.report_views.specs.Spots.{Spot}
use Rattle.report_views.specs.reading.Seen.{spot_seen}
use Rattle.report_logs.specs.Logs.{sights_of}
use Rattle.report_logs.specs.Sarif.{Told, WayTold, ways_told}
use Rattle.report_logs.specs.declared.results.Told.{Told as ToldCode}
use Rattle.report_logs.specs.declared.stacks.WayTold.{WayTold as WayToldCode}
use Rattle.report_logs.specs.Refusals.{Refusal}
use Rattle.report_logs.specs.declared.refusals.Refusal.{Refusal as RefusalCode}
use Rattle.report_logs.specs.declared.logs.Answers.{Answers as AnswersCode}

abbrev pub way_told_seen : WayToldCode → WayTold
way_told_seen way =
    record { kind = way.kind; said = way.said.now; spot = spot_seen way.spot; region = way.region }

abbrev pub told_seen : ToldCode → Told
told_seen told =
    record {
      spot = spot_seen told.spot;
      region = told.region;
      function = told.function.now;
      fingerprint = told.fingerprint.now;
      ways = map way_told_seen told.ways.now;
    }

abbrev pub answers_seen : AnswersCode → Answers
answers_seen answers =
    record {
      report = answers.report.now;
      waits = answers.waits.now;
      dead = answers.dead.now;
      assumptions = answers.assumptions.now;
      ways = answers.ways.now;
    }

abbrev pub refusal_seen : RefusalCode → Refusal
refusal_seen refusal = record { place = refusal.place; word = refusal.word.now; said = refusal.said.now }

-- what is told of findings is told of each
pub record AreAsMany (count : ℕ) (regions : List Region) (functions : List (Bor (List ℕ)))
    (fingerprints : List (String Global)) : Type 0 where
  pub of_regions : length regions ≡ count
  pub of_functions : length functions ≡ count
  pub of_fingerprints : length fingerprints ≡ count

-- what is told is shared out among findings
pub record AreSharedOut (count : ℕ) (counts : List ℕ) (told : ℕ) : Type 0 where
  pub of_counts : length counts ≡ count
  pub of_told : sum counts ≡ told

-- what is told of alarms, at these places of a text, where these lines of the files are at hand
abbrev pub told_at : List ℕ → List ℕ → List Way → List Spot → List WayTold
told_at text lines ways sites = ways_told ways sites (map (region_of text lines) (sights_of (map site_of ways) sites))

-- these are the files, and the ones that were seen
pub record HasFiles {S : Type 0} (files : List (List ℕ)) (found : List (Bor (List ℕ)))
    (seen : HashMap (Bor (List ℕ)) Bool S) : Type 0 where
  pub told : map bytes_seen found ≡ files
  pub known : (q : List ℕ) → is_some (get_by (λ k. bytes_eq q k.now) seen) ≡ list_any (bytes_eq q) files
