-- What the code finds of the text behind a source is a verdict on the bytes.
use Rattle.std.proofs.Common.{◌≡◌, ℕ, ◌≤◌, ◌^◌, List, [], length}
use Rattle.std.specs.Prelude.{Result, Ok, Err, IfOk}
use Rattle.mutex_configs.specs.tm_laid.declared.scales.Scale.TheVariants as Scales
use Rattle.program_reports.specs.program_equations.Programs.{ProgramBodies}
use Rattle.program_reports.specs.post_recheck.Pairs.{Pair, FitsPair}
use Rattle.source_programs.specs.Sources.{IsAccepted}
use Rattle.certificate_texts.specs.certificate_words.Words.{lines_text}
use Rattle.certificate_texts.specs.Limits.{certificate_limit}
use Rattle.certificate_texts.specs.Sizes.{HasSmallNumbers}
use Rattle.certificate_texts.specs.Certificates.{pair_lines}
use Rattle.certificate_check.specs.Heads.{HasSource}
use Rattle.certificate_check.specs.Certificates.{IsCertificate}
use Rattle.certificate_check.specs.Verdicts.{IsVerdict, no_pair}
use Rattle.certificate_check.specs.declared.verdicts.Verdict.{Verdict}
use Rattle.certificate_check.specs.declared.verdicts.Verdict.TheVariants.{TooLong, NoCertificate, Refused, Uncovered}
use Rattle.certificate_check.specs.declared.verdicts.Verdict.TheVariants.{UncoveredStore, Certified}
use Rattle.certificate_check.specs.reading.Parts.{IsPairVerdict, IsVerdictOn, unread, read}
use Rattle.certificate_check.proofs.Sourced.{lists_all}
use Rattle.certificate_check.proofs.InBytes.{one_source, source_of_text, text_of_source}

-- what an answer says is what it says of another fact that follows
pub if_ok_by : {A E : Type 0} {P Q : A → Type 0} (r : Result A E) → IfOk r P → ((a : A) → P a → Q a) → IfOk r Q
if_ok_by (Ok a) h k = k a h
if_ok_by (Err e) h k = tt

module _ (bytes source told : List ℕ) (short : length bytes ≤ certificate_limit) (has : HasSource bytes source told)
    (p : ProgramBodies) (a : IsAccepted [] source p) (small : HasSmallNumbers p) (few : length a.laid.objects ≤ 2 ^ 32) where
  certificate : (pair : Pair) → FitsPair p pair → told ≡ lines_text (pair_lines pair) → IsCertificate bytes source p pair
  certificate pair fits e = record {
    short = short;
    accepted = a;
    small = small;
    fits = fits;
    is = text_of_source bytes source told pair has e;
  }

  by_pair : (pair : Pair) (fits : FitsPair p pair) (e : told ≡ lines_text (pair_lines pair)) (v : Verdict)
      → IsPairVerdict p pair v → IsVerdict bytes v
  unfolding certificate
  by_pair pair fits e TooLong h = absurd h
  by_pair pair fits e NoCertificate h = absurd h
  by_pair pair fits e (Refused refusal) h = absurd h
  by_pair pair fits e (Uncovered body edge) h = record {
    source = source;
    program = p;
    pair = pair;
    certificate = certificate pair fits e;
    uncovered = h;
  }
  by_pair pair fits e UncoveredStore h = record {
    source = source;
    program = p;
    pair = pair;
    certificate = certificate pair fits e;
    uncovered = h;
  }
  by_pair pair fits e (Certified report) h = record {
    source = source;
    program = p;
    pair = pair;
    certificate = certificate pair fits e;
    solution = h.0;
    exact = h.1;
    lists = lists_all Scales.Usual [] source p a few pair.tables pair.store h.0 report.alarms.items h.1;
  }

  -- what is told is the one text behind the source
  told_of : (pair : Pair) → HasSource bytes source (lines_text (pair_lines pair)) → told ≡ lines_text (pair_lines pair)
  told_of pair other = (one_source bytes source told source (lines_text (pair_lines pair)) short has other).1

  pub told_verdict : (v : Verdict) → IsVerdictOn p told v → IsVerdict bytes v
  told_verdict _ (unread none) = (
    short,
    no_pair source told p has a (λ pair fits e. none pair fits (told_of pair (source_of_text bytes source pair e))),
  )
  told_verdict _ (read pair v fits e h) = by_pair pair fits e v h
