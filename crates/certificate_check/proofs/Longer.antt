-- Answers come with a whole text, and bytes that are too many have theirs already where only a front of them is known.
use Rattle.std.proofs.Common.{◌≡◌, sym, subst, ℕ, ◌<◌, ◌≤◌, List, [], ◌∷◌, ◌++◌, length, arith, length-append}
use Rattle.tm_terms.specs.declared.alarms.Alarm.{Alarm}
use Rattle.program_streams.specs.declared.statuses.Status.{Status}
use Rattle.program_streams.specs.Statuses.{IsWhole}
use Rattle.certificate_texts.specs.Limits.{certificate_limit}
use Rattle.certificate_check.specs.VerdictTexts.{HasChecked, certified_status, verdict_status}
use Rattle.certificate_check.specs.Certificates.{IsCertificate}
use Rattle.certificate_check.specs.Verdicts.{IsVerdict}
use Rattle.certificate_check.specs.declared.verdicts.Verdict.{Verdict}
use Rattle.certificate_check.specs.declared.verdicts.Verdict.TheVariants.{TooLong, NoCertificate, Refused, Uncovered}
use Rattle.certificate_check.specs.declared.verdicts.Verdict.TheVariants.{UncoveredStore, Certified}

module _ (bytes more : List ℕ) (long : certificate_limit < length bytes) where
  not_short : length bytes ≤ certificate_limit → ⊥
  not_short short = omega (arith, long, short)

  longer : (v : Verdict) → IsVerdict bytes v → IsVerdict (bytes ++ more) v
  longer TooLong h = omega (arith, long, length-append bytes more)
  longer NoCertificate h = absurd (not_short h.0)
  longer (Refused refusal) h = absurd (not_short h.0)
  longer (Uncovered body edge) h = absurd (let c = h.certificate in not_short c.short)
  longer UncoveredStore h = absurd (let c = h.certificate in not_short c.short)
  longer (Certified report) h = absurd (let c = h.certificate in not_short c.short)

  pub longer_checked : (status : Status) (text : List ℕ) → HasChecked bytes status text
      → HasChecked (bytes ++ more) status text
  longer_checked status text h =
      record { verdict = h.verdict; is = longer h.verdict h.is; comes = h.comes; says = h.says }

report_is_whole : (report : List Alarm) → IsWhole (certified_status report)
report_is_whole [] = tt
report_is_whole (alarm ∷ report) = tt

verdict_is_whole : (v : Verdict) → IsWhole (verdict_status v)
verdict_is_whole TooLong = tt
verdict_is_whole NoCertificate = tt
verdict_is_whole (Refused refusal) = tt
verdict_is_whole (Uncovered body edge) = tt
verdict_is_whole UncoveredStore = tt
verdict_is_whole (Certified report) = report_is_whole report.alarms.items

pub checked_is_whole : (bytes : List ℕ) (status : Status) (text : List ℕ) → HasChecked bytes status text
    → IsWhole status
checked_is_whole bytes status text h = subst IsWhole (sym h.comes) (verdict_is_whole h.verdict)
