-- What the findings give is a view, or a cause for which there is none.
use Rattle.std.proofs.Common.{◌≡◌, ◌∙◌, ℕ, Bool, List, map, sym, subst}
use Rattle.std.specs.Prelude.{IfOk, Result, Ok, Err}
use Rattle.tm_terms.specs.declared.alarms.Alarm.{Alarm}
use Rattle.source_marks.specs.Marks.{Origin}
use Rattle.report_views.specs.Causes.{AreOrigins, IsCause, IsMisplaced, IsReportOf}
use Rattle.report_views.specs.Spots.{finding_of}
use Rattle.report_views.specs.Views.{IsShown, IsView}
use Rattle.report_views.specs.declared.spots.Finding.{Finding}
use Rattle.report_views.specs.declared.views.Form.{Form}
use Rattle.report_views.specs.declared.causes.Cause.{Cause}
use Rattle.report_views.specs.declared.causes.Cause.TheVariants.{LongReport, NotJson, NotReport, LongText, BrokenMark}
use Rattle.report_views.specs.declared.causes.Cause.TheVariants.{Outside, LongListing, NotListing, LongAssumptions, NotAssumptions}
use Rattle.report_views.specs.declared.causes.Cause.TheVariants.{LongWays, NotWays, StrangeWay}

by_alarms : (name report text : List ℕ) (alarms : List Alarm) (origins : List Origin) → IsReportOf report alarms
    → AreOrigins name text origins → (cause : Cause) → IsMisplaced origins (map finding_of alarms) cause
    → IsCause name report text cause
by_alarms name report text alarms origins reads marks LongReport m = absurd m
by_alarms name report text alarms origins reads marks NotJson m = absurd m
by_alarms name report text alarms origins reads marks NotReport m = absurd m
by_alarms name report text alarms origins reads marks LongText m = absurd m
by_alarms name report text alarms origins reads marks (BrokenMark number) m = absurd m
by_alarms name report text alarms origins reads marks (Outside place) m = (alarms, origins, reads, marks, m)
by_alarms name report text alarms origins reads marks (LongListing listing) m = absurd m
by_alarms name report text alarms origins reads marks (NotListing listing) m = absurd m
by_alarms name report text alarms origins reads marks LongAssumptions m = absurd m
by_alarms name report text alarms origins reads marks NotAssumptions m = absurd m
by_alarms name report text alarms origins reads marks LongWays m = absurd m
by_alarms name report text alarms origins reads marks NotWays m = absurd m
by_alarms name report text alarms origins reads marks (StrangeWay place) m = absurd m

pub misplaced_cause : (name report text : List ℕ) (alarms : List Alarm) (findings : List Finding) (origins origins' : List Origin)
    → IsReportOf report alarms → AreOrigins name text origins → findings ≡ map finding_of alarms → origins' ≡ origins
    → (cause : Cause) → IsMisplaced origins' findings cause → IsCause name report text cause
misplaced_cause name report text alarms findings origins origins' reads marks same_findings same_origins cause m =
    let Q : List Origin → Type 0 = λ o. AreOrigins name text o in
    let M : List Finding → Type 0 = λ f. IsMisplaced origins' f cause in
    by_alarms name report text alarms origins' reads (subst Q (sym same_origins) marks) cause (subst M same_findings m)

pub view_of : (form : Form) (name report text : List ℕ) (alarms : List Alarm) (findings : List Finding)
    (origins origins' : List Origin) → IsReportOf report alarms → AreOrigins name text origins
    → findings ≡ map finding_of alarms → origins' ≡ origins
    → (alarm : Bool) (view : List ℕ) → IsShown form origins' findings alarm view → IsView form name report text alarm view
view_of form name report text alarms findings origins origins' reads marks same_findings same_origins alarm view shown =
    let Q : List Origin → Type 0 = λ o. AreOrigins name text o in
    let S : List Finding → Type 0 = λ f. IsShown form origins' f alarm view in
    record {
      alarms = alarms;
      origins = origins';
      reads = reads;
      marks = subst Q (sym same_origins) marks;
      shown = subst S same_findings shown;
    }

pub if_ok_by : {T E : Type 0} (P Q : T → Type 0) (r : Result T E) → IfOk r P → ((x : T) → P x → Q x) → IfOk r Q
if_ok_by P Q (Ok x) p f = f x p
if_ok_by P Q (Err e) p f = tt
