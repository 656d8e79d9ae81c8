-- From the answer of a command to the answer to words.
use Rattle.std.proofs.Common.{◌≡◌, ℕ, ◌<◌, ◌≤◌, List, [], ◌∷◌, length, refl, sym, ap, ◌∙◌, subst, inl, inr, arith}
use Rattle.std.specs.Prelude.{◌⊎◌, Option, Some, None}
use Rattle.cmd_words.specs.declared.commands.AnalyseWords.{AnalyseWords}
use Rattle.cmd_words.specs.declared.commands.Command.{Command}
use Rattle.cmd_words.specs.declared.commands.Command.TheVariants.{Analyse, Replay, Generate, Demo}
use Rattle.cmd_words.specs.declared.commands.Command.TheVariants.{Waits, Ranges, Certify, Check}
use Rattle.cmd_words.specs.declared.commands.DemoWords.{DemoWords}
use Rattle.big_source.specs.GeneratedSources.{source_text}
use Rattle.tm_terms.specs.declared.alarms.Alarm.{Alarm}
use Rattle.tm_terms.specs.declared.refusals.Refusal.{Refusal}
use Rattle.worker_solutions.specs.tm_laid.declared.scales.Scale.TheVariants as Scales
use Rattle.worker_solutions.specs.program_equations.Programs.{ProgramBodies}
use Rattle.source_replays.specs.source_programs.Sources.{IsAccepted, IsRefused}
use Rattle.source_replays.specs.source_programs.LaidSources.{longest_source}
use Rattle.source_replays.proofs.low.source_programs.OneSource.{none_is_both, one_program}
use Rattle.source_replays.specs.declared.replays.Outcome.{Outcome}
use Rattle.source_replays.specs.declared.replays.Outcome.TheVariants as Outcomes
use Rattle.source_replays.specs.Replays.{IsRefusedReplay, HasReplay, TellsRefusal, AsksForNone}
use Rattle.source_replays.proofs.Alike.{none_is_both as no_replay}
use Rattle.program_streams.specs.declared.statuses.Status.{Status}
use Rattle.program_streams.specs.declared.statuses.Status.TheVariants.{NoAlarm, Alarms, Refused, Usage, ReadFault, WriteFault, NoMemory}
use Rattle.analyser.specs.Headline.{Reports, WritesReport, HasAnswer, HasSummary, IsGenerated, SaysUsage, CommandGives}
use Rattle.analyser.specs.Headline.{IsReplayed, AsksForRun, replay_status}
use Rattle.analyser.specs.Headline.{IsCommand, Reads, AnswersFor, Accepts, Refuses, longest_of}
use Rattle.analyser.specs.Headline.{HasShortText, AsksForCheck, IsNotCertified, is_refused, has_long_text}
use Rattle.analyser.specs.Headline.{IsNotChecked, is_too_long, is_none, is_of_refused}
use Rattle.worker_solutions.specs.program_solutions.LeastReports.{IsLeastPair}
use Rattle.source_findings.specs.Certificates.{HasCertificate, WritesCertificate, IsRefusedBy, ExceedsCertificate}
use Rattle.source_findings.specs.certificate_check.certificate_texts.Limits.{certificate_limit}
use Rattle.source_findings.specs.certificate_check.VerdictTexts.{HasChecked, certified_status, verdict_status}
use Rattle.source_findings.specs.certificate_check.Laws.{TestsPair}
use Rattle.source_findings.specs.certificate_check.declared.verdicts.Verdict.{Verdict}
use Rattle.source_findings.specs.certificate_check.declared.verdicts.Verdict.TheVariants as Verdicts
use Rattle.source_findings.proofs.low.certificate_check.Reached.{certificates_are_tested, long_refused, none_refused}
use Rattle.source_findings.proofs.low.certificate_check.Reached.{source_refused}
use Rattle.program_streams.specs.Taken.{Answers, TakesNoMore, Told}
use Rattle.source_findings.specs.Findings.{HasFinding, Solves}
use Rattle.source_findings.specs.declared.findings.Finding.{Finding}
use Rattle.source_findings.specs.declared.findings.Finding.TheVariants as Findings
use Rattle.source_findings.proofs.Solved.{solved_by}
use Rattle.program_streams.specs.Statuses.{IsReported, IsWhole}
use Rattle.analyser.specs.Statuses.{IsSinkStop, IsStop}
use Rattle.analyser.specs.reading.Streams.{Says, SaysNoMore}

-- ## Another set of answers

told_some : (left : Option (List ℕ)) → (bytes : List ℕ) × Told left bytes
told_some None = ([], tt)
told_some (Some bytes) = (bytes, refl)

-- what is answered whatever the bytes are
module _ (May : Status → List ℕ → Type 0) (More : List ℕ → Status → List ℕ → Type 0)
    (more : (bytes : List ℕ) (status : Status) (text : List ℕ) → May status text → More bytes status text)
    (left taken taken' : Option (List ℕ)) where
  pub said_answers : (status : Status) → Says May taken taken' status → Answers More left taken taken' status
  said_answers status s =
      let known = told_some left in
      record {
        bytes = known.0;
        told = known.1;
        text = s.text;
        may = more known.0 status s.text s.may;
        appended = s.appended;
      }

  pub said_takes : SaysNoMore May taken taken' → TakesNoMore More left taken taken'
  said_takes (inl e) = inl e
  said_takes (inr s) =
      let known = told_some left in
      let front = s.sent in
      inr (record {
        bytes = known.0;
        told = known.1;
        status = s.status;
        text = s.text;
        may = more known.0 s.status s.text s.may;
        front = front.front;
        rest = front.rest;
        split = front.split;
        appended = front.appended;
      })

-- what is answered to the bytes
module _ (May More : List ℕ → Status → List ℕ → Type 0)
    (more : (bytes : List ℕ) (status : Status) (text : List ℕ) → May bytes status text → More bytes status text)
    (left taken taken' : Option (List ℕ)) where
  pub more_answers : (status : Status) → Answers May left taken taken' status → Answers More left taken taken' status
  more_answers status a = record {
    bytes = a.bytes;
    told = a.told;
    text = a.text;
    may = more a.bytes status a.text a.may;
    appended = a.appended;
  }

  pub more_takes : TakesNoMore May left taken taken' → TakesNoMore More left taken taken'
  more_takes (inl e) = inl e
  more_takes (inr a) = inr (record {
    bytes = a.bytes;
    told = a.told;
    status = a.status;
    text = a.text;
    may = more a.bytes a.status a.text a.may;
    front = a.front;
    rest = a.rest;
    split = a.split;
    appended = a.appended;
  })

-- ## Commands

pub usage_of_none : (c : Option Command) → c ≡ None → (bytes : List ℕ) (status : Status) (text : List ℕ)
    → SaysUsage status text → CommandGives c bytes status text
usage_of_none c e bytes status text h = subst (λ d. CommandGives d bytes status text) (sym e) h

pub answer_of_replay : (c : Option Command) → c ≡ Some Replay → (bytes : List ℕ) (status : Status) (text : List ℕ)
    → IsReplayed bytes status text → CommandGives c bytes status text
answer_of_replay c e bytes status text h = subst (λ d. CommandGives d bytes status text) (sym e) h

pub answer_of_analyse : (c : Option Command) (w : AnalyseWords) → c ≡ Some (Analyse w) → (bytes : List ℕ)
    (status : Status) (text : List ℕ) → HasAnswer w bytes status text → CommandGives c bytes status text
answer_of_analyse c w e bytes status text h = subst (λ d. CommandGives d bytes status text) (sym e) h

pub answer_of_generate : (c : Option Command) (count : ℕ) → c ≡ Some (Generate count) → (bytes : List ℕ)
    (status : Status) (text : List ℕ) → IsGenerated count status text → CommandGives c bytes status text
answer_of_generate c count e bytes status text h = subst (λ d. CommandGives d bytes status text) (sym e) h

pub answer_of_demo : (c : Option Command) (w : DemoWords) → c ≡ Some (Demo w) → (bytes : List ℕ) (status : Status)
    (text : List ℕ) → HasSummary (source_text w.count) status text → CommandGives c bytes status text
answer_of_demo c w e bytes status text h = subst (λ d. CommandGives d bytes status text) (sym e) h

pub answer_of_waits : (c : Option Command) → c ≡ Some Waits → (bytes : List ℕ) (status : Status) (text : List ℕ)
    → HasFinding Findings.Waits bytes status text → CommandGives c bytes status text
answer_of_waits c e bytes status text h = subst (λ d. CommandGives d bytes status text) (sym e) h

pub answer_of_ranges : (c : Option Command) → c ≡ Some Ranges → (bytes : List ℕ) (status : Status) (text : List ℕ)
    → HasFinding Findings.Ranges bytes status text → CommandGives c bytes status text
answer_of_ranges c e bytes status text h = subst (λ d. CommandGives d bytes status text) (sym e) h

pub answer_of_certify : (c : Option Command) → c ≡ Some Certify → (bytes : List ℕ) (status : Status) (text : List ℕ)
    → HasCertificate bytes status text → CommandGives c bytes status text
answer_of_certify c e bytes status text h = subst (λ d. CommandGives d bytes status text) (sym e) h

pub answer_of_check : (c : Option Command) → c ≡ Some Check → (bytes : List ℕ) (status : Status) (text : List ℕ)
    → HasChecked bytes status text → CommandGives c bytes status text
answer_of_check c e bytes status text h = subst (λ d. CommandGives d bytes status text) (sym e) h

pub reads_certify : (c : Option Command) → c ≡ Some Certify → Reads c
reads_certify c e = subst Reads (sym e) tt

pub reads_check : (c : Option Command) → c ≡ Some Check → Reads c
reads_check c e = subst Reads (sym e) tt

-- each of these but `check` reads no more than a source may have
pub longest_of_check : (c : Option Command) → c ≡ Some Check → certificate_limit ≡ longest_of c
longest_of_check c e = sym (ap longest_of e)

pub longest_of_other : (c d : Option Command) → c ≡ d → longest_of d ≡ longest_source → longest_source ≡ longest_of c
longest_of_other c d e f = sym (ap longest_of e ∙ f)

pub reads_waits : (c : Option Command) → c ≡ Some Waits → Reads c
reads_waits c e = subst Reads (sym e) tt

pub reads_ranges : (c : Option Command) → c ≡ Some Ranges → Reads c
reads_ranges c e = subst Reads (sym e) tt

pub reads_demo : (c : Option Command) (w : DemoWords) → c ≡ Some (Demo w) → Reads c → ⊥
reads_demo c w e r = subst Reads e r

pub reads_none : (c : Option Command) → c ≡ None → Reads c → ⊥
reads_none c e r = subst Reads e r

pub reads_replay : (c : Option Command) → c ≡ Some Replay → Reads c
reads_replay c e = subst Reads (sym e) tt

pub reads_generate : (c : Option Command) (count : ℕ) → c ≡ Some (Generate count) → Reads c → ⊥
reads_generate c count e r = subst Reads e r

pub reads_analyse : (c : Option Command) (w : AnalyseWords) → c ≡ Some (Analyse w) → Reads c
reads_analyse c w e = subst Reads (sym e) tt

-- ## Which statuses come

whole_or_stop : (status : Status) → IsWhole status ⊎ IsStop status
whole_or_stop NoAlarm = inl tt
whole_or_stop Alarms = inl tt
whole_or_stop Refused = inl tt
whole_or_stop Usage = inl tt
whole_or_stop ReadFault = inr tt
whole_or_stop WriteFault = inr tt
whole_or_stop NoMemory = inr tt

-- the answer of a command is never the usage line
usage_is_clean : Usage ≡ NoAlarm → ⊥
usage_is_clean e = cc

never_usage : (outcome : Outcome) → Usage ≡ replay_status outcome → ⊥
never_usage Outcomes.Clean e = cc
never_usage Outcomes.Found e = cc
never_usage Outcomes.Refused e = cc

report_never_usage : (report : List Alarm) → Usage ≡ certified_status report → ⊥
report_never_usage [] e = cc
report_never_usage (alarm ∷ report) e = cc

verdict_never_usage : (v : Verdict) → Usage ≡ verdict_status v → ⊥
verdict_never_usage Verdicts.TooLong e = cc
verdict_never_usage Verdicts.NoCertificate e = cc
verdict_never_usage (Verdicts.Refused refusal) e = cc
verdict_never_usage (Verdicts.Uncovered body edge) e = cc
verdict_never_usage Verdicts.UncoveredStore e = cc
verdict_never_usage (Verdicts.Certified report) e = report_never_usage report.alarms.items e

no_usage : (c : Option Command) → IsCommand c → (bytes text : List ℕ) → CommandGives c bytes Usage text → ⊥
no_usage None is bytes text h = is
no_usage (Some (Analyse w)) is bytes text h = h
no_usage (Some Replay) is bytes text h = never_usage h.outcome h.comes
no_usage (Some (Generate count)) is bytes text h = usage_is_clean h.0
no_usage (Some (Demo w)) is bytes text h = h
no_usage (Some Waits) is bytes text h = h
no_usage (Some Ranges) is bytes text h = h
no_usage (Some Certify) is bytes text h = h
no_usage (Some Check) is bytes text h = verdict_never_usage h.verdict h.comes

-- words that are no command are answered with the usage line
only_usage : (c : Option Command) → (IsCommand c → ⊥) → (bytes : List ℕ) (status : Status) (text : List ℕ)
    → CommandGives c bytes status text → status ≡ Usage
only_usage None none bytes status text h = h.0
only_usage (Some (Analyse w)) none bytes status text h = absurd (none tt)
only_usage (Some Replay) none bytes status text h = absurd (none tt)
only_usage (Some (Generate count)) none bytes status text h = absurd (none tt)
only_usage (Some (Demo w)) none bytes status text h = absurd (none tt)
only_usage (Some Waits) none bytes status text h = absurd (none tt)
only_usage (Some Ranges) none bytes status text h = absurd (none tt)
only_usage (Some Certify) none bytes status text h = absurd (none tt)
only_usage (Some Check) none bytes status text h = absurd (none tt)

-- what reads is a command
reads_is : (c : Option Command) → Reads c → IsCommand c
reads_is None r = r
reads_is (Some (Analyse w)) r = r
reads_is (Some Replay) r = r
reads_is (Some (Generate count)) r = absurd r
reads_is (Some (Demo w)) r = absurd r
reads_is (Some Waits) r = r
reads_is (Some Ranges) r = r
reads_is (Some Certify) r = r
reads_is (Some Check) r = r

sink_stop : (status : Status) → IsStop status → (status ≡ ReadFault → ⊥) → IsSinkStop status
sink_stop NoAlarm s other = absurd s
sink_stop Alarms s other = absurd s
sink_stop Refused s other = absurd s
sink_stop Usage s other = absurd s
sink_stop ReadFault s other = absurd (other refl)
sink_stop WriteFault s other = inl refl
sink_stop NoMemory s other = inr refl

-- ## Sources that are accepted or refused

told_bytes : (left : Option (List ℕ)) (known bytes : List ℕ) → left ≡ Some known → Told left bytes → known ≡ bytes
told_bytes None known bytes e t = absurd (cc)
told_bytes (Some b) known bytes e t = let f : b ≡ known = cc in sym f ∙ t

-- the statuses that an accepted source may come to
accepted_comes : (w : AnalyseWords) (bytes : List ℕ) (p : ProgramBodies) → IsAccepted w.thresholds bytes p → (status : Status) (text : List ℕ) → HasAnswer w bytes status text → IsReported status
accepted_comes w bytes p a NoAlarm text h = inl refl
accepted_comes w bytes p a Alarms text h = inr refl
accepted_comes w bytes p a Refused text h = absurd (none_is_both Scales.Usual w.thresholds bytes p h.0 a h.1)
accepted_comes w bytes p a Usage text h = absurd h
accepted_comes w bytes p a ReadFault text h = absurd h
accepted_comes w bytes p a WriteFault text h = absurd h
accepted_comes w bytes p a NoMemory text h = absurd h

none_reported : (w : AnalyseWords) (bytes : List ℕ) (refusal : Refusal) → IsRefused bytes refusal → (report : List Alarm)
    (text : List ℕ) → WritesReport w bytes report text → ⊥
none_reported w bytes refusal r report text h =
    let reports = h.reports in none_is_both Scales.Usual w.thresholds bytes reports.program refusal reports.accepted r

refused_comes : (w : AnalyseWords) (bytes : List ℕ) (refusal : Refusal) → IsRefused bytes refusal → (status : Status) (text : List ℕ) → HasAnswer w bytes status text → status ≡ Refused
refused_comes w bytes refusal r NoAlarm text h = absurd (none_reported w bytes refusal r [] text h)
refused_comes w bytes refusal r Alarms text h = absurd (none_reported w bytes refusal r h.0 text h.2)
refused_comes w bytes refusal r Refused text h = refl
refused_comes w bytes refusal r Usage text h = absurd h
refused_comes w bytes refusal r ReadFault text h = absurd h
refused_comes w bytes refusal r WriteFault text h = absurd h
refused_comes w bytes refusal r NoMemory text h = absurd h

-- the same of a generated source
summary_comes : (source : List ℕ) (p : ProgramBodies) → IsAccepted [] source p → (status : Status) (text : List ℕ)
    → HasSummary source status text → IsReported status
summary_comes source p a NoAlarm text h = inl refl
summary_comes source p a Alarms text h = inr refl
summary_comes source p a Refused text h = absurd (none_is_both Scales.Usual [] source p h.0 a h.1)
summary_comes source p a Usage text h = absurd h
summary_comes source p a ReadFault text h = absurd h
summary_comes source p a WriteFault text h = absurd h
summary_comes source p a NoMemory text h = absurd h

none_of : (source : List ℕ) (refusal : Refusal) → IsRefused source refusal → (report : List Alarm)
    → Reports [] source report → ⊥
none_of source refusal r report h = none_is_both Scales.Usual [] source h.program refusal h.accepted r

refusal_comes : (source : List ℕ) (refusal : Refusal) → IsRefused source refusal → (status : Status) (text : List ℕ)
    → HasSummary source status text → status ≡ Refused
refusal_comes source refusal r NoAlarm text h = absurd (none_of source refusal r [] h.0)
refusal_comes source refusal r Alarms text h = absurd (none_of source refusal r h.0 h.2)
refusal_comes source refusal r Refused text h = refl
refusal_comes source refusal r Usage text h = absurd h
refusal_comes source refusal r ReadFault text h = absurd h
refusal_comes source refusal r WriteFault text h = absurd h
refusal_comes source refusal r NoMemory text h = absurd h

-- the same of what a least solution tells
finding_comes : (f : Finding) (bytes : List ℕ) (p : ProgramBodies) → IsAccepted [] bytes p → (status : Status)
    (text : List ℕ) → HasFinding f bytes status text → IsReported status
finding_comes f bytes p a NoAlarm text h = inl refl
finding_comes f bytes p a Alarms text h = inr refl
finding_comes f bytes p a Refused text h = absurd (none_is_both Scales.Usual [] bytes p h.0 a h.1)
finding_comes f bytes p a Usage text h = absurd h
finding_comes f bytes p a ReadFault text h = absurd h
finding_comes f bytes p a WriteFault text h = absurd h
finding_comes f bytes p a NoMemory text h = absurd h

none_solved : (bytes : List ℕ) (refusal : Refusal) → IsRefused bytes refusal → Solves bytes → ⊥
none_solved bytes refusal r s = none_is_both Scales.Usual [] bytes s.program refusal s.accepted r

refused_finding : (f : Finding) (bytes : List ℕ) (refusal : Refusal) → IsRefused bytes refusal → (status : Status)
    (text : List ℕ) → HasFinding f bytes status text → status ≡ Refused
refused_finding f bytes refusal r NoAlarm text h = absurd (none_solved bytes refusal r (solved_by f bytes NoAlarm text h))
refused_finding f bytes refusal r Alarms text h = absurd (none_solved bytes refusal r (solved_by f bytes Alarms text h))
refused_finding f bytes refusal r Refused text h = refl
refused_finding f bytes refusal r Usage text h = absurd h
refused_finding f bytes refusal r ReadFault text h = absurd h
refused_finding f bytes refusal r WriteFault text h = absurd h
refused_finding f bytes refusal r NoMemory text h = absurd h

-- the same of replays
run_comes : (bytes : List ℕ) → AsksForRun bytes → (outcome : Outcome) (text : List ℕ) → HasReplay bytes outcome text
    → IsReported (replay_status outcome)
run_comes bytes a Outcomes.Clean text h = inl refl
run_comes bytes a Outcomes.Found text h = inr refl
run_comes bytes a Outcomes.Refused text h = absurd (by_kind h)
  where
    by_kind : TellsRefusal bytes text ⊎ AsksForNone bytes text → ⊥
    by_kind (inl t) = no_replay bytes a.laid t.refusal a.replayable t.refused
    by_kind (inr n) = let clash : Some a.choices ≡ None = sym a.asked ∙ n.none in cc

refusal_of_run : (bytes : List ℕ) (refusal : Refusal) → IsRefusedReplay bytes refusal → (outcome : Outcome)
    (text : List ℕ) → HasReplay bytes outcome text → replay_status outcome ≡ Refused
refusal_of_run bytes refusal r Outcomes.Clean text h = absurd (no_replay bytes h.laid refusal h.replayable r)
refusal_of_run bytes refusal r Outcomes.Found text h = absurd (no_replay bytes h.laid refusal h.replayable r)
refusal_of_run bytes refusal r Outcomes.Refused text h = refl

-- the same of certificates: the text of each least solution is short, or each is long
certificate_comes : (bytes : List ℕ) → HasShortText bytes → (status : Status) (text : List ℕ)
    → HasCertificate bytes status text → IsReported status
certificate_comes bytes a NoAlarm text h = inl refl
certificate_comes bytes a Alarms text h = absurd h
certificate_comes bytes a Refused text h = absurd (by_case h)
  where
    by_case : IsRefusedBy bytes text ⊎ ExceedsCertificate bytes text → ⊥
    by_case (inl r) = none_is_both Scales.Usual [] bytes a.program r.refusal a.accepted r.refused
    by_case (inr e) =
        let s = e.solves in
        let same = one_program Scales.Usual Scales.Usual [] bytes s.program a.program s.accepted a.accepted in
        let short = a.short s.pair (subst (λ p. IsLeastPair p s.pair) same s.least) in
        omega (arith, short, e.long)
certificate_comes bytes a Usage text h = absurd h
certificate_comes bytes a ReadFault text h = absurd h
certificate_comes bytes a WriteFault text h = absurd h
certificate_comes bytes a NoMemory text h = absurd h

not_written : (bytes text : List ℕ) → IsNotCertified bytes → WritesCertificate bytes text → ⊥
not_written bytes text (is_refused refusal r) h =
    let s = h.solves in none_is_both Scales.Usual [] bytes s.program refusal s.accepted r
not_written bytes text (has_long_text a) h =
    let s = h.solves in
    let same = one_program Scales.Usual Scales.Usual [] bytes s.program a.program s.accepted a.accepted in
    let long = a.long s.pair (subst (λ p. IsLeastPair p s.pair) same s.least) in
    omega (arith, long, h.short, ap length h.is)

refused_certificate : (bytes : List ℕ) → IsNotCertified bytes → (status : Status) (text : List ℕ)
    → HasCertificate bytes status text → status ≡ Refused
refused_certificate bytes r NoAlarm text h = absurd (not_written bytes text r h)
refused_certificate bytes r Alarms text h = absurd h
refused_certificate bytes r Refused text h = refl
refused_certificate bytes r Usage text h = absurd h
refused_certificate bytes r ReadFault text h = absurd h
refused_certificate bytes r WriteFault text h = absurd h
refused_certificate bytes r NoMemory text h = absurd h

-- the same of checks
report_reported : (report : List Alarm) → IsReported (certified_status report)
report_reported [] = inl refl
report_reported (alarm ∷ report) = inr refl

tested_reported : (v : Verdict) → TestsPair v → IsReported (verdict_status v)
tested_reported Verdicts.TooLong h = absurd h
tested_reported Verdicts.NoCertificate h = absurd h
tested_reported (Verdicts.Refused refusal) h = absurd h
tested_reported (Verdicts.Uncovered body edge) h = inr refl
tested_reported Verdicts.UncoveredStore h = inr refl
tested_reported (Verdicts.Certified report) h = report_reported report.alarms.items

check_comes : (bytes : List ℕ) → AsksForCheck bytes → (status : Status) (text : List ℕ) → HasChecked bytes status text
    → IsReported status
check_comes bytes a status text h =
    subst IsReported (sym h.comes)
    (tested_reported h.verdict (certificates_are_tested bytes a.source a.program a.pair a.certificate h.verdict h.is))

check_refused : (bytes : List ℕ) → IsNotChecked bytes → (status : Status) (text : List ℕ) → HasChecked bytes status text
    → status ≡ Refused
check_refused bytes (is_too_long long) status text h = h.comes ∙ long_refused bytes long h.verdict h.is
check_refused bytes (is_none short none) status text h = h.comes ∙ none_refused bytes short none h.verdict h.is
check_refused bytes (is_of_refused source told refusal short has r) status text h =
    h.comes ∙ source_refused bytes source told refusal short has r h.verdict h.is

-- ## Commands that accept or refuse

command_reports : (c : Option Command) (left : Option (List ℕ)) (bytes known : List ℕ) → AnswersFor c left bytes
    → Accepts c bytes → Told left known → (status : Status) (text : List ℕ) → CommandGives c known status text
    → IsReported status
command_reports None left bytes known e a t status text h = absurd e
command_reports (Some (Analyse w)) left bytes known e a t status text h =
    let same : bytes ≡ known = told_bytes left bytes known e t in
    accepted_comes w known a.0 (subst (λ b. IsAccepted w.thresholds b a.0) same a.1) status text h
command_reports (Some Replay) left bytes known e a t status text h =
    let same : bytes ≡ known = told_bytes left bytes known e t in
    subst IsReported (sym h.comes) (run_comes known (subst AsksForRun same a) h.outcome text h.has)
command_reports (Some (Generate count)) left bytes known e a t status text h = absurd e
command_reports (Some (Demo w)) left bytes known e a t status text h =
    summary_comes (source_text w.count) a.0 (subst (λ b. IsAccepted [] b a.0) e a.1) status text h
command_reports (Some Waits) left bytes known e a t status text h =
    let same : bytes ≡ known = told_bytes left bytes known e t in
    finding_comes Findings.Waits known a.0 (subst (λ b. IsAccepted [] b a.0) same a.1) status text h
command_reports (Some Ranges) left bytes known e a t status text h =
    let same : bytes ≡ known = told_bytes left bytes known e t in
    finding_comes Findings.Ranges known a.0 (subst (λ b. IsAccepted [] b a.0) same a.1) status text h
command_reports (Some Certify) left bytes known e a t status text h =
    let same : bytes ≡ known = told_bytes left bytes known e t in
    certificate_comes known (subst HasShortText same a) status text h
command_reports (Some Check) left bytes known e a t status text h =
    let same : bytes ≡ known = told_bytes left bytes known e t in
    check_comes known (subst AsksForCheck same a) status text h

command_refuses : (c : Option Command) (left : Option (List ℕ)) (bytes known : List ℕ) → AnswersFor c left bytes
    → Refuses c bytes → Told left known → (status : Status) (text : List ℕ) → CommandGives c known status text
    → status ≡ Refused
command_refuses None left bytes known e r t status text h = absurd e
command_refuses (Some (Analyse w)) left bytes known e r t status text h =
    let same : bytes ≡ known = told_bytes left bytes known e t in
    refused_comes w known r.0 (subst (λ b. IsRefused b r.0) same r.1) status text h
command_refuses (Some Replay) left bytes known e r t status text h =
    let same : bytes ≡ known = told_bytes left bytes known e t in
    h.comes ∙ refusal_of_run known r.0 (subst (λ b. IsRefusedReplay b r.0) same r.1) h.outcome text h.has
command_refuses (Some (Generate count)) left bytes known e r t status text h = absurd e
command_refuses (Some (Demo w)) left bytes known e r t status text h =
    refusal_comes (source_text w.count) r.0 (subst (λ b. IsRefused b r.0) e r.1) status text h
command_refuses (Some Waits) left bytes known e r t status text h =
    let same : bytes ≡ known = told_bytes left bytes known e t in
    refused_finding Findings.Waits known r.0 (subst (λ b. IsRefused b r.0) same r.1) status text h
command_refuses (Some Ranges) left bytes known e r t status text h =
    let same : bytes ≡ known = told_bytes left bytes known e t in
    refused_finding Findings.Ranges known r.0 (subst (λ b. IsRefused b r.0) same r.1) status text h
command_refuses (Some Certify) left bytes known e r t status text h =
    let same : bytes ≡ known = told_bytes left bytes known e t in
    refused_certificate known (subst IsNotCertified same r) status text h
command_refuses (Some Check) left bytes known e r t status text h =
    let same : bytes ≡ known = told_bytes left bytes known e t in
    check_refused known (subst IsNotChecked same r) status text h

-- ## The clauses of the top call

module _ (c : Option Command) (left taken taken' : Option (List ℕ)) (status : Status)
    (h : IsWhole status → Answers (CommandGives c) left taken taken' status) where
  pub no_usage_line : IsCommand c → status ≡ Usage → ⊥
  no_usage_line is e =
      let whole : IsWhole status = subst IsWhole (sym e) tt in
      no_usage c is (h whole).bytes (h whole).text
      (subst (λ s. CommandGives c (h whole).bytes s (h whole).text) e (h whole).may)

  pub usage_line : (status ≡ ReadFault → Reads c) → (IsCommand c → ⊥) → (status ≡ Usage) ⊎ IsSinkStop status
  usage_line read none = by_case (whole_or_stop status)
    where
      by_case : IsWhole status ⊎ IsStop status → (status ≡ Usage) ⊎ IsSinkStop status
      by_case (inl w) = inl (only_usage c none (h w).bytes status (h w).text (h w).may)
      by_case (inr s) = inr (sink_stop status s (λ e. none (reads_is c (read e))))

  pub accepted_reported : (bytes : List ℕ) → AnswersFor c left bytes → Accepts c bytes
      → IsReported status ⊎ IsStop status
  accepted_reported bytes e a = by_case (whole_or_stop status)
    where
      by_case : IsWhole status ⊎ IsStop status → IsReported status ⊎ IsStop status
      by_case (inr s) = inr s
      by_case (inl w) =
          inl (command_reports c left bytes (h w).bytes e a (h w).told status (h w).text (h w).may)

  pub refused_refused : (bytes : List ℕ) → AnswersFor c left bytes → Refuses c bytes
      → (status ≡ Refused) ⊎ IsStop status
  refused_refused bytes e r = by_case (whole_or_stop status)
    where
      by_case : IsWhole status ⊎ IsStop status → (status ≡ Refused) ⊎ IsStop status
      by_case (inr s) = inr s
      by_case (inl w) =
          inl (command_refuses c left bytes (h w).bytes e r (h w).told status (h w).text (h w).may)
