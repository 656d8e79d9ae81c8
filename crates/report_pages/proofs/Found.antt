-- What the findings give is a page, or a cause for which there is none.
use Rattle.std.proofs.Common.{◌≡◌, ◌∙◌, ℕ, suc, Option, Some, None, List, [], ◌∷◌, length, map, refl, sym, subst, ap}
use Rattle.tm_terms.specs.declared.alarms.Alarm.{Alarm}
use Rattle.source_marks.specs.Marks.{Origin}
use Rattle.report_views.specs.Causes.{AreOrigins, IsReportOf}
use Rattle.report_views.specs.Spots.{Spot, before, finding_of, spot_of, spots_of}
use Rattle.report_views.specs.declared.spots.Finding.{Finding}
use Rattle.report_pages.specs.Pages.{IsPage, IsShown, Texts}

-- the findings that have places are as many as their places
placed_before : (origins : List Origin) (finding : Finding) (rest : Option (List Spot)) (first : Option Spot)
    (count : ℕ) → ((spots : List Spot) → rest ≡ Some spots → length spots ≡ count)
    → (spots : List Spot) → before first rest ≡ Some spots → length spots ≡ suc count
placed_before origins finding None (Some spot) count shorter spots is = cc
placed_before origins finding (Some rest) (Some spot) count shorter spots is =
    let same : spots ≡ spot ∷ rest = cc in ap length same ∙ ap suc (shorter rest refl)
placed_before origins finding rest None count shorter spots is = cc

pub as_many_spots : (origins : List Origin) (findings : List Finding) (spots : List Spot)
    → spots_of origins findings ≡ Some spots → length spots ≡ length findings
as_many_spots origins [] spots is = let same : spots ≡ [] = cc in ap length same
as_many_spots origins (finding ∷ findings) spots is =
    placed_before origins finding (spots_of origins findings) (spot_of origins finding) (length findings)
    (as_many_spots origins findings) spots is

pub page_of : (report : List ℕ) (texts : Texts) (alarms : List Alarm) (findings : List Finding)
    (origins origins' : List Origin) → IsReportOf report alarms → AreOrigins texts.name texts.text origins
    → findings ≡ map finding_of alarms → origins' ≡ origins
    → (page : List ℕ) → IsShown texts origins' findings page → IsPage report texts page
page_of report texts alarms findings origins origins' reads marks same_findings same_origins page shown =
    let Q : List Origin → Type 0 = λ o. AreOrigins texts.name texts.text o in
    let S : List Finding → Type 0 = λ f. IsShown texts origins' f page in
    record {
      alarms = alarms;
      origins = origins';
      reads = reads;
      marks = subst Q (sym same_origins) marks;
      shown = subst S same_findings shown;
    }
