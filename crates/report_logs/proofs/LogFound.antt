-- What the findings and the ways give is a log, or a cause for which there is none.
use Rattle.std.proofs.Common.{◌≡◌, ◌∙◌, ℕ, List, ◌++◌, ap, length, map, sym, subst, refl}
use Rattle.std.specs.Prelude.{IfOk, Result, Ok, Err, sum}
use Rattle.std.proofs.lemmas.List.Elements.{Contains-append_left, Contains-append_right}
use Rattle.source_marks.specs.Marks.{Origin}
use Rattle.tm_terms.specs.declared.places.Place.{Place}
use Rattle.report_reading.specs.Ways.{Way}
use Rattle.report_views.specs.Causes.{Answers, AreFindings, AreOrigins, AreWaysOf, IsLogCause, IsMisplaced, IsStrange}
use Rattle.report_views.specs.Shares.{cut, shares, site_of}
use Rattle.report_views.specs.declared.spots.Finding.{Finding}
use Rattle.report_views.specs.declared.causes.Cause.{Cause}
use Rattle.report_views.specs.declared.causes.Cause.TheVariants.{Outside, StrangeWay}
use Rattle.place_details.specs.Details.{AreDetails, Sight, region_of}
use Rattle.place_details.specs.declared.regions.Region.{Region}
use Rattle.source_marks.specs.Names.{decoded}
use Rattle.report_views.specs.Spots.{IsOutside, Spot}
use Rattle.report_logs.specs.Logs.{IsLog, IsLogged, IsWritten, sights_of}
use Rattle.report_logs.specs.Sarif.{WayTold, sarif_text, told_of}
use Rattle.report_logs.specs.reading.Seen.{told_at}

-- ## Causes

by_findings : (name : List ℕ) (answers : Answers) (text : List ℕ) (findings : List Finding) (ways : List Way)
    (origins : List Origin) → AreFindings answers findings → AreWaysOf answers.ways ways → AreOrigins name text origins
    → (cause : Cause) → IsMisplaced origins (findings ++ map site_of ways) cause → IsLogCause name answers text cause
by_findings name answers text findings ways origins reads told marks (Outside place) m =
    (findings, ways, origins, reads, told, marks, m)
by_findings name answers text findings ways origins reads told marks other m = absurd m

pub misplaced_log : (name : List ℕ) (answers : Answers) (text : List ℕ) (findings findings' : List Finding)
    (ways ways' : List Way) (origins origins' : List Origin) → AreFindings answers findings
    → AreWaysOf answers.ways ways → AreOrigins name text origins → findings' ≡ findings → ways' ≡ ways
    → origins' ≡ origins → (cause : Cause) → IsMisplaced origins' (findings' ++ map site_of ways') cause
    → IsLogCause name answers text cause
misplaced_log name answers text findings findings' ways ways' origins origins' reads told marks same_findings same_ways same_origins cause m =
    let P : List Finding → Type 0 = λ f. AreFindings answers f in
    let W : List Way → Type 0 = λ w. AreWaysOf answers.ways w in
    let Q : List Origin → Type 0 = λ o. AreOrigins name text o in
    by_findings name answers text findings' ways' origins' (subst P (sym same_findings) reads)
    (subst W (sym same_ways) told) (subst Q (sym same_origins) marks) cause m

by_ways : (name : List ℕ) (answers : Answers) (text : List ℕ) (findings : List Finding) (ways : List Way)
    → AreFindings answers findings → AreWaysOf answers.ways ways → (cause : Cause) → IsStrange findings ways cause
    → IsLogCause name answers text cause
by_ways name answers text findings ways reads told (StrangeWay place) m = (findings, ways, reads, told, m)
by_ways name answers text findings ways reads told other m = absurd m

pub strange_log : (name : List ℕ) (answers : Answers) (text : List ℕ) (findings findings' : List Finding)
    (ways ways' : List Way) → AreFindings answers findings → AreWaysOf answers.ways ways → findings' ≡ findings
    → ways' ≡ ways → (cause : Cause) → IsStrange findings' ways' cause → IsLogCause name answers text cause
strange_log name answers text findings findings' ways ways' reads told same_findings same_ways cause m =
    let P : List Finding → Type 0 = λ f. AreFindings answers f in
    let W : List Way → Type 0 = λ w. AreWaysOf answers.ways w in
    by_ways name answers text findings' ways' (subst P (sym same_findings) reads) (subst W (sym same_ways) told) cause m

-- a cause of some findings is one of more
outside_by : (origins : List Origin) (some more : List Finding)
    → ((place : Place) → IsOutside origins some place → IsOutside origins more place) → (cause : Cause)
    → IsMisplaced origins some cause → IsMisplaced origins more cause
outside_by origins some more f (Outside place) m = f place m
outside_by origins some more f other m = absurd m

pub misplaced_in_front : (origins : List Origin) (findings more : List Finding) (cause : Cause)
    → IsMisplaced origins findings cause → IsMisplaced origins (findings ++ more) cause
misplaced_in_front origins findings more cause m =
    outside_by origins findings (findings ++ more)
    (λ place is. record {
      finding = is.finding;
      there = Contains-append_left findings more is.finding is.there;
      placed = is.placed;
      none = is.none;
    }) cause m

pub misplaced_behind : (origins : List Origin) (findings more : List Finding) (cause : Cause)
    → IsMisplaced origins more cause → IsMisplaced origins (findings ++ more) cause
misplaced_behind origins findings more cause m =
    outside_by origins more (findings ++ more)
    (λ place is. record {
      finding = is.finding;
      there = Contains-append_right findings more is.finding is.there;
      placed = is.placed;
      none = is.none;
    }) cause m

-- ## Logs

-- the log of what was read, by what the code holds of it
pub log_of : (documents folder name : List ℕ) (answers : Answers) (text lines : List ℕ)
    (findings findings' findings'' : List Finding) (ways ways' ways'' : List Way) (counts counts' : List ℕ)
    (origins origins' : List Origin) → AreFindings answers findings → AreWaysOf answers.ways ways
    → AreOrigins name text origins → findings' ≡ findings → ways' ≡ ways → findings'' ≡ findings → ways'' ≡ ways
    → counts ≡ shares findings' ways' → sum counts ≡ length ways' → counts' ≡ counts → origins' ≡ origins
    → (log : List ℕ) → IsLogged documents folder name text lines origins' findings'' ways'' counts' log
    → IsLog documents folder name answers text lines log
log_of documents folder name answers text lines findings findings' findings'' ways ways' ways'' counts counts' origins origins' reads told marks f w f' w' shared whole same_counts same_origins log logged =
    let shared_out : counts ≡ shares findings ways = shared ∙ ap (λ a. shares a ways') f ∙ ap (shares findings) w in
    let O : List Origin → Type 0 = λ o. IsLogged documents folder name text lines o findings'' ways'' counts' log in
    let F : List Finding → Type 0 = λ a. IsLogged documents folder name text lines origins a ways'' counts' log in
    let W : List Way → Type 0 = λ a. IsLogged documents folder name text lines origins findings a counts' log in
    let C : List ℕ → Type 0 = λ a. IsLogged documents folder name text lines origins findings ways a log in
    record {
      findings = findings;
      ways = ways;
      origins = origins;
      reads = reads;
      reads_ways = told;
      all_told = ap sum (sym shared_out) ∙ whole ∙ ap length w;
      marks = marks;
      logged = subst C (same_counts ∙ shared_out) (subst W w' (subst F f' (subst O same_origins logged)));
    }

-- the text of the log of findings, by names that were decoded, what is told of places and what of alarms
pub written_of : (documents folder name text lines documents' folder' name' : List ℕ) (findings : List Finding)
    (ways : List Way) (counts : List ℕ) (spots sites : List Spot) (sights : List Sight) (regions : List Region)
    (functions fingerprints : List (List ℕ)) (told : List WayTold) (log : List ℕ)
    → documents' ≡ decoded documents → folder' ≡ decoded folder → name' ≡ decoded name → sights ≡ sights_of findings spots
    → AreDetails folder' text lines sights regions functions fingerprints → told ≡ told_at text lines ways sites
    → log ≡ sarif_text documents' name' spots sites (told_of spots regions functions fingerprints (cut counts told))
    → IsWritten documents folder name text lines findings ways counts spots sites log
written_of documents folder name text lines documents' folder' name' findings ways counts spots sites sights regions functions fingerprints told log e f g h details same is =
    let all = told_of spots regions functions fingerprints (cut counts told) in
    let P : List ℕ → Type 0 = λ o. AreDetails o text lines sights regions functions fingerprints in
    let Q : List Sight → Type 0 = λ o. AreDetails (decoded folder) text lines o regions functions fingerprints in
    record {
      regions = regions;
      site_regions = map (region_of text lines) (sights_of (map site_of ways) sites);
      functions = functions;
      fingerprints = fingerprints;
      details = subst Q h (subst P f details);
      in_lines = refl;
      written = is ∙ ap (λ o. sarif_text o name' spots sites all) e
          ∙ ap (λ o. sarif_text (decoded documents) o spots sites all) g
          ∙ ap (λ t. sarif_text (decoded documents) (decoded name) spots sites
          (told_of spots regions functions fingerprints (cut counts t))) same;
    }

pub if_ok_by : {T E : Type 0} (P Q : T → Type 0) (r : Result T E) → IfOk r P → ((x : T) → P x → Q x) → IfOk r Q
if_ok_by P Q (Ok x) p f = f x p
if_ok_by P Q (Err e) p f = tt
