-- What an answer to a certificate promises of runs.
use Rattle.std.proofs.Common.{◌≡◌, ◌∙◌, refl, sym, subst, inl, inr, ℕ, List, [], ◌∷◌, ◌++◌}
use Rattle.std.specs.Prelude.{◌⊎◌, Option, codes, decimal}
use Rattle.tm_terms.specs.declared.alarms.Alarm.{Alarm}
use Rattle.tm_terms.specs.Texts.{line_of}
use Rattle.program_streams.specs.declared.statuses.Status.{Status}
use Rattle.program_streams.specs.declared.statuses.Status.TheVariants.{NoAlarm, Alarms, Refused}
use Rattle.program_streams.specs.Statuses.{IsReported, IsWhole}
use Rattle.program_streams.specs.Taken.{Answers}
use Rattle.certificate_texts.specs.certificate_words.Words.{lines_text}
use Rattle.certificate_texts.specs.Certificates.{pair_lines}
use Rattle.certificate_check.proofs.InBytes.{source_of_text}
use Rattle.certificate_check.specs.VerdictTexts.{HasChecked, certified_status, certified_text, verdict_status, verdict_text}
use Rattle.certificate_check.specs.Soundness.{IsCertified, IsSoundCheck}
use Rattle.certificate_check.specs.Verdicts.{IsVerdict, Certifies}
use Rattle.certificate_check.specs.declared.verdicts.Verdict.{Verdict}
use Rattle.certificate_check.specs.declared.verdicts.Verdict.TheVariants as Verdicts

not_refused : (status : Status) → IsReported status → status ≡ Refused → ⊥
not_refused status (inl e) f = let clash : NoAlarm ≡ Refused = sym e ∙ f in cc
not_refused status (inr e) f = let clash : Alarms ≡ Refused = sym e ∙ f in cc

none_listed : (report : List Alarm) → NoAlarm ≡ certified_status report → report ≡ []
none_listed [] e = refl
none_listed (alarm ∷ report) e = cc

certified_sound : (bytes : List ℕ) (report : List Alarm) → Certifies bytes report → (status : Status) (text : List ℕ)
    → status ≡ certified_status report → text ≡ certified_text report → IsCertified bytes status text
certified_sound bytes report h status text e f =
    let c = h.certificate in
    let pair = h.pair in
    let a = c.accepted in
    record {
      source = h.source;
      told = lines_text (pair_lines pair);
      has = source_of_text bytes h.source pair c.is;
      laid = a.laid;
      is_laid = a.source;
      report = report;
      lists = h.lists;
      is = f;
      none = λ g. none_listed report (sym g ∙ e);
    }

verdict_sound : (bytes : List ℕ) (v : Verdict) → IsVerdict bytes v → (status : Status) (text : List ℕ)
    → IsReported status → status ≡ verdict_status v → text ≡ verdict_text v → IsSoundCheck bytes status text
verdict_sound bytes Verdicts.TooLong h status text reported e f = absurd (not_refused status reported e)
verdict_sound bytes Verdicts.NoCertificate h status text reported e f = absurd (not_refused status reported e)
verdict_sound bytes (Verdicts.Refused refusal) h status text reported e f = absurd (not_refused status reported e)
verdict_sound bytes (Verdicts.Uncovered body edge) h status text reported e f =
    inr (record { comes = e; rest = (decimal body ++ (codes " " ++ decimal edge)) ++ (10 ∷ []); is = f })
verdict_sound bytes Verdicts.UncoveredStore h status text reported e f =
    inr (record { comes = e; rest = codes "store\n"; is = f })
verdict_sound bytes (Verdicts.Certified report) h status text reported e f =
    inl (certified_sound bytes report.alarms.items h status text e f)

pub reported_is_whole : (status : Status) → IsReported status → IsWhole status
reported_is_whole status (inl e) = subst IsWhole (sym e) tt
reported_is_whole status (inr e) = subst IsWhole (sym e) tt

pub sound_answers : (left taken taken' : Option (List ℕ)) (status : Status) → IsReported status
    → Answers HasChecked left taken taken' status → Answers IsSoundCheck left taken taken' status
sound_answers left taken taken' status reported a =
    let h = a.may in
    record {
      bytes = a.bytes;
      told = a.told;
      text = a.text;
      may = verdict_sound a.bytes h.verdict h.is status a.text reported h.comes h.says;
      appended = a.appended;
    }
