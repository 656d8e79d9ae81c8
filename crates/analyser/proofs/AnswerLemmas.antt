-- Answers to bytes, those that are too many among them, and answers whatever the bytes are.
use Rattle.std.proofs.Common.{◌≡◌, ℕ, ◌+◌, ◌<◌, ◌≤◌, List, [], ◌++◌, length, refl, sym, ◌∙◌, ap, subst, inl, inr, arith, length-append}
use Rattle.std.specs.Io.KnownBytes.{append_known}
use Rattle.std.specs.Prelude.{◌⊎◌, Option, Some, None, Result, Ok, Err, IfOk}
use Rattle.cmd_words.specs.declared.commands.AnalyseWords.{AnalyseWords}
use Rattle.big_source.specs.GeneratedSources.{summary_text}
use Rattle.tm_terms.specs.declared.alarms.Alarm.{Alarm}
use Rattle.tm_terms.specs.declared.refusals.Refusal.{Refusal}
use Rattle.tm_terms.specs.Texts.{refusal_text}
use Rattle.source_replays.specs.source_programs.LaidSources.{longest_source}
use Rattle.source_replays.specs.source_programs.Sources.{IsRefused, too_long, not_lexed, not_parsed}
use Rattle.source_replays.specs.source_programs.Sources.{not_typed, not_laid, not_prepared}
use Rattle.source_replays.specs.declared.replays.Outcome.{Outcome}
use Rattle.source_replays.specs.declared.replays.Outcome.TheVariants as Outcomes
use Rattle.source_replays.proofs.Alike.{long_ones_are_alike}
use Rattle.program_streams.specs.declared.statuses.Status.{Status}
use Rattle.program_streams.specs.declared.statuses.Status.TheVariants.{NoAlarm, Alarms, Refused, Usage, ReadFault, WriteFault, NoMemory}
use Rattle.analyser.specs.Headline.{Reports, WritesReport, HistoryFor, HasAnswer, HasSummary, IsGenerated}
use Rattle.analyser.specs.Headline.{IsReplayed, replay_status, report_lines}
use Rattle.source_findings.specs.Findings.{HasFinding, Solves}
use Rattle.source_findings.specs.Certificates.{HasCertificate, IsRefusedBy, ExceedsCertificate}
use Rattle.source_findings.specs.declared.findings.Finding.{Finding}
use Rattle.source_findings.proofs.Solved.{solved_by}
use Rattle.program_streams.specs.Statuses.{IsWhole}
use Rattle.analyser.specs.declared.replies.Asked.{Asked}
use Rattle.analyser.specs.declared.replies.Asked.TheVariants.{Report, Replay, Solution, Certificate}
use Rattle.analyser.specs.reading.Asked.{AskedGives}
use Rattle.analyser.specs.reading.Replies.{TellsAlarms}
use Rattle.analyser.specs.reading.Streams.{Says, SaysNoMore}
use Rattle.program_streams.specs.Streams.{TakesFrontOf}

pub if_ok_both : {A E : Type 0} {P P' Q : A → Type 0} (r : Result A E) → IfOk r P → IfOk r P' → ((a : A) → P a → P' a → Q a) → IfOk r Q
if_ok_both (Ok a) h h' k = k a h h'
if_ok_both (Err e) h h' k = tt

-- a report is answered by its lines, behind those of a history
pub report_answered : (w : AnalyseWords) (bytes : List ℕ) (report : List Alarm) (reports : Reports w.thresholds bytes report)
    (lines : List ℕ) → HistoryFor w.history reports.program w.workers lines → (status : Status) (text : List ℕ)
    → TellsAlarms report status → text ≡ lines ++ report_lines w.json report → HasAnswer w bytes status text
report_answered w bytes report reports lines asked status text tells e =
    by_status status (record { reports = reports; history = lines; asked = asked; is = e }) tells
  where
    by_status : (status : Status) → WritesReport w bytes report text → TellsAlarms report status
        → HasAnswer w bytes status text
    by_status NoAlarm h g = subst (λ r. WritesReport w bytes r text) g h
    by_status Alarms h g = (report, g, h)
    by_status Refused h g = absurd g
    by_status Usage h g = absurd g
    by_status ReadFault h g = absurd g
    by_status WriteFault h g = absurd g
    by_status NoMemory h g = absurd g

-- a refusal is answered by its line
pub refusal_answered : (w : AnalyseWords) (bytes : List ℕ) (refusal : Refusal) → IsRefused bytes refusal
    → (status : Status) (text : List ℕ) → status ≡ Refused → text ≡ refusal_text refusal → HasAnswer w bytes status text
refusal_answered w bytes refusal h status text e f = subst (λ s. HasAnswer w bytes s text) (sym e) (refusal, h, f)

-- the same of a generated source, and its two lines
pub report_summarised : (source : List ℕ) (report : List Alarm) → Reports [] source report → (status : Status)
    (text : List ℕ) → TellsAlarms report status → text ≡ summary_text source report → HasSummary source status text
report_summarised source report h NoAlarm text g e =
    (subst (Reports [] source) g h, e ∙ ap (summary_text source) g)
report_summarised source report h Alarms text g e = (report, g, h, e)
report_summarised source report h Refused text g e = absurd g
report_summarised source report h Usage text g e = absurd g
report_summarised source report h ReadFault text g e = absurd g
report_summarised source report h WriteFault text g e = absurd g
report_summarised source report h NoMemory text g e = absurd g

pub refusal_summarised : (source : List ℕ) (refusal : Refusal) → IsRefused source refusal → (status : Status)
    (text : List ℕ) → status ≡ Refused → text ≡ refusal_text refusal → HasSummary source status text
refusal_summarised source refusal h status text e f = subst (λ s. HasSummary source s text) (sym e) (refusal, h, f)

-- ---- an answer comes with a whole text

answer_is_whole : (w : AnalyseWords) (bytes : List ℕ) (status : Status) (text : List ℕ) → HasAnswer w bytes status text → IsWhole status
answer_is_whole w bytes NoAlarm text h = tt
answer_is_whole w bytes Alarms text h = tt
answer_is_whole w bytes Refused text h = tt
answer_is_whole w bytes Usage text h = absurd h
answer_is_whole w bytes ReadFault text h = absurd h
answer_is_whole w bytes WriteFault text h = absurd h
answer_is_whole w bytes NoMemory text h = absurd h

pub summary_is_whole : (source : List ℕ) (status : Status) (text : List ℕ) → HasSummary source status text → IsWhole status
summary_is_whole source NoAlarm text h = tt
summary_is_whole source Alarms text h = tt
summary_is_whole source Refused text h = tt
summary_is_whole source Usage text h = absurd h
summary_is_whole source ReadFault text h = absurd h
summary_is_whole source WriteFault text h = absurd h
summary_is_whole source NoMemory text h = absurd h

pub generated_is_whole : (count : ℕ) (status : Status) (text : List ℕ) → IsGenerated count status text → IsWhole status
generated_is_whole count status text h = subst IsWhole (sym h.0) tt

-- ---- what a source has left, and what is read of it

longer_refused : (bytes more : List ℕ) (refusal : Refusal) → longest_source < length bytes → IsRefused bytes refusal → IsRefused (bytes ++ more) refusal
longer_refused bytes more refusal h (too_long k) = too_long (omega (arith, length-append bytes more))
longer_refused bytes more refusal h (not_lexed k l) = absurd (omega arith)
longer_refused bytes more refusal h (not_parsed k l q) = absurd (omega arith)
longer_refused bytes more refusal h (not_typed k l t) = absurd (omega arith)
longer_refused bytes more refusal h (not_laid k l t e) = absurd (omega arith)
longer_refused bytes more refusal h (not_prepared source e) =
    absurd (let k : length bytes ≤ longest_source = source.short in omega arith)

-- a source that is too long has no report
not_longer : (w : AnalyseWords) (bytes : List ℕ) (report : List Alarm) (text : List ℕ) → longest_source < length bytes
    → WritesReport w bytes report text → ⊥
not_longer w bytes report text long h =
    let reports = h.reports in
    let accepted = reports.accepted in
    let source = accepted.source in
    let short : length bytes ≤ longest_source = source.short in
    omega (arith, long, short)

-- a source that is too long has its answer already where only its front is known
longer_answered : (w : AnalyseWords) (bytes more : List ℕ) → longest_source < length bytes → (status : Status) (text : List ℕ) → HasAnswer w bytes status text → HasAnswer w (bytes ++ more) status text
longer_answered w bytes more long NoAlarm text h = absurd (not_longer w bytes [] text long h)
longer_answered w bytes more long Alarms text h = absurd (not_longer w bytes h.0 text long h.2)
longer_answered w bytes more long Refused text h = (h.0, longer_refused bytes more h.0 long h.1, h.2)
longer_answered w bytes more long Usage text h = absurd h
longer_answered w bytes more long ReadFault text h = absurd h
longer_answered w bytes more long WriteFault text h = absurd h
longer_answered w bytes more long NoMemory text h = absurd h

-- the same of a replay
longer_replayed : (bytes more : List ℕ) → longest_source < length bytes → (status : Status) (text : List ℕ)
    → IsReplayed bytes status text → IsReplayed (bytes ++ more) status text
longer_replayed bytes more long status text h =
    record { outcome = h.outcome; comes = h.comes; has = long_ones_are_alike bytes more h.outcome text long h.has }

-- the same of what a least solution tells: a source that is too long has none
not_solved : (bytes : List ℕ) → longest_source < length bytes → Solves bytes → ⊥
not_solved bytes long s =
    let accepted = s.accepted in
    let source = accepted.source in
    let short : length bytes ≤ longest_source = source.short in
    omega (arith, long, short)

longer_found : (f : Finding) (bytes more : List ℕ) → longest_source < length bytes → (status : Status) (text : List ℕ)
    → HasFinding f bytes status text → HasFinding f (bytes ++ more) status text
longer_found f bytes more long NoAlarm text h = absurd (not_solved bytes long (solved_by f bytes NoAlarm text h))
longer_found f bytes more long Alarms text h = absurd (not_solved bytes long (solved_by f bytes Alarms text h))
longer_found f bytes more long Refused text h = (h.0, longer_refused bytes more h.0 long h.1, h.2)
longer_found f bytes more long Usage text h = absurd h
longer_found f bytes more long ReadFault text h = absurd h
longer_found f bytes more long WriteFault text h = absurd h
longer_found f bytes more long NoMemory text h = absurd h

-- each comes with a whole text
finding_is_whole : (f : Finding) (bytes : List ℕ) (status : Status) (text : List ℕ) → HasFinding f bytes status text
    → IsWhole status
finding_is_whole f bytes NoAlarm text h = tt
finding_is_whole f bytes Alarms text h = tt
finding_is_whole f bytes Refused text h = tt
finding_is_whole f bytes Usage text h = absurd h
finding_is_whole f bytes ReadFault text h = absurd h
finding_is_whole f bytes WriteFault text h = absurd h
finding_is_whole f bytes NoMemory text h = absurd h

replay_is_whole : (bytes : List ℕ) (status : Status) (text : List ℕ) → IsReplayed bytes status text → IsWhole status
replay_is_whole bytes status text h = subst IsWhole (sym h.comes) (whole h.outcome)
  where
    whole : (outcome : Outcome) → IsWhole (replay_status outcome)
    whole Outcomes.Clean = tt
    whole Outcomes.Found = tt
    whole Outcomes.Refused = tt

-- the same of a certificate of a source
longer_certified_by : (bytes more : List ℕ) → longest_source < length bytes → (text : List ℕ)
    → IsRefusedBy bytes text ⊎ ExceedsCertificate bytes text
    → IsRefusedBy (bytes ++ more) text ⊎ ExceedsCertificate (bytes ++ more) text
longer_certified_by bytes more long text (inl h) =
    inl (record { refusal = h.refusal; refused = longer_refused bytes more h.refusal long h.refused; is = h.is })
longer_certified_by bytes more long text (inr h) = absurd (not_solved bytes long h.solves)

longer_certified : (bytes more : List ℕ) → longest_source < length bytes → (status : Status) (text : List ℕ)
    → HasCertificate bytes status text → HasCertificate (bytes ++ more) status text
longer_certified bytes more long NoAlarm text h = absurd (not_solved bytes long h.solves)
longer_certified bytes more long Alarms text h = absurd h
longer_certified bytes more long Refused text h = longer_certified_by bytes more long text h
longer_certified bytes more long Usage text h = absurd h
longer_certified bytes more long ReadFault text h = absurd h
longer_certified bytes more long WriteFault text h = absurd h
longer_certified bytes more long NoMemory text h = absurd h

certificate_is_whole : (bytes : List ℕ) (status : Status) (text : List ℕ) → HasCertificate bytes status text
    → IsWhole status
certificate_is_whole bytes NoAlarm text h = tt
certificate_is_whole bytes Alarms text h = tt
certificate_is_whole bytes Refused text h = tt
certificate_is_whole bytes Usage text h = absurd h
certificate_is_whole bytes ReadFault text h = absurd h
certificate_is_whole bytes WriteFault text h = absurd h
certificate_is_whole bytes NoMemory text h = absurd h

-- ---- the same of whatever is asked about bytes

pub longer_asked : (a : Asked) (bytes more : List ℕ) → longest_source < length bytes → (status : Status) (text : List ℕ)
    → AskedGives a bytes status text → AskedGives a (bytes ++ more) status text
longer_asked (Report words) bytes more long status text h = longer_answered words bytes more long status text h
longer_asked Replay bytes more long status text h = longer_replayed bytes more long status text h
longer_asked (Solution finding) bytes more long status text h = longer_found finding bytes more long status text h
longer_asked Certificate bytes more long status text h = longer_certified bytes more long status text h

pub asked_is_whole : (a : Asked) (bytes : List ℕ) (status : Status) (text : List ℕ) → AskedGives a bytes status text
    → IsWhole status
asked_is_whole (Report words) bytes status text h = answer_is_whole words bytes status text h
asked_is_whole Replay bytes status text h = replay_is_whole bytes status text h
asked_is_whole (Solution finding) bytes status text h = finding_is_whole finding bytes status text h
asked_is_whole Certificate bytes status text h = certificate_is_whole bytes status text h

-- ---- what is answered whatever the bytes are

module _ (May : Status → List ℕ → Type 0) (taken taken' : Option (List ℕ)) (text sent : List ℕ) (e : sent ≡ text) where
  pub said_whole : (status result : Status) → May status text → result ≡ status → taken' ≡ append_known taken sent
      → Says May taken taken' result
  said_whole status result may f h = record {
    text = text;
    may = subst (λ s. May s text) (sym f) may;
    appended = h ∙ ap (append_known taken) e;
  }

  pub said_front : (status : Status) → May status text → TakesFrontOf sent taken taken' → SaysNoMore May taken taken'
  said_front status may f = inr (record {
    status = status;
    text = text;
    may = may;
    sent = subst (λ s. TakesFrontOf s taken taken') e f;
  })
