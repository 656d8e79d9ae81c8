-- How far bytes are read, by what may be said of them as a certificate.
use Rattle.std.proofs.Common.{◌≡◌, ◌∙◌, refl, sym, subst, ℕ, ◌<◌, ◌≤◌, List, [], length, arith}
use Rattle.std.specs.Prelude.{◌⊎◌}
use Rattle.tm_terms.specs.declared.refusals.Refusal.{Refusal}
use Rattle.mutex_configs.specs.tm_laid.declared.scales.Scale.TheVariants as Scales
use Rattle.program_reports.specs.program_equations.Programs.{ProgramBodies, IsProgram}
use Rattle.program_reports.specs.post_recheck.Pairs.{Pair, FitsPair}
use Rattle.source_programs.specs.Sources.{IsAccepted, IsRefused}
use Rattle.source_programs.proofs.Accepted.{accepted_is_program}
use Rattle.source_programs.proofs.OneSource.{none_is_both, one_program, one_refusal}
use Rattle.certificate_texts.specs.certificate_words.Words.{lines_text}
use Rattle.certificate_texts.specs.Limits.{certificate_limit}
use Rattle.certificate_texts.specs.Certificates.{certificate_text, pair_lines}
use Rattle.program_streams.specs.declared.statuses.Status.TheVariants as Statuses
use Rattle.certificate_check.specs.Heads.{HasSource}
use Rattle.certificate_check.specs.Certificates.{IsCertificate}
use Rattle.certificate_check.specs.Verdicts.{IsVerdict, IsNoCertificate, no_source, no_pair}
use Rattle.certificate_check.specs.VerdictTexts.{verdict_status}
use Rattle.certificate_check.specs.Laws.{AreAlike, TestsPair, CertificatesAreTested}
use Rattle.certificate_check.specs.declared.verdicts.Verdict.{Verdict}
use Rattle.certificate_check.specs.declared.verdicts.Verdict.TheVariants.{TooLong, NoCertificate, Refused, Uncovered}
use Rattle.certificate_check.specs.declared.verdicts.Verdict.TheVariants.{UncoveredStore, Certified}
use Rattle.certificate_check.specs.reading.Parts.{IsPairVerdict}
use Rattle.certificate_check.proofs.InBytes.{one_source, source_of_text}

-- ## How far bytes are read

-- how far the bytes of a verdict are read
pub data Reaches (bytes : List ℕ) : Verdict → Type 0 where
  long : certificate_limit < length bytes → Reaches bytes TooLong
  unsplit : length bytes ≤ certificate_limit → ((source told : List ℕ) → HasSource bytes source told → ⊥)
      → Reaches bytes NoCertificate
  refused : {r : Refusal} (source told : List ℕ) → length bytes ≤ certificate_limit → HasSource bytes source told
      → IsRefused source r → Reaches bytes (Refused r)
  unread : (source told : List ℕ) (p : ProgramBodies) → length bytes ≤ certificate_limit
      → HasSource bytes source told → IsAccepted [] source p
      → ((pair : Pair) → FitsPair p pair → bytes ≡ certificate_text source pair → ⊥) → Reaches bytes NoCertificate
  read : (v : Verdict) (source : List ℕ) (p : ProgramBodies) (pair : Pair) → IsCertificate bytes source p pair
      → IsPairVerdict p pair v → Reaches bytes v

none_reaches : (bytes : List ℕ) → length bytes ≤ certificate_limit → IsNoCertificate bytes → Reaches bytes NoCertificate
none_reaches bytes short (no_source none) = unsplit short none
none_reaches bytes short (no_pair source told p has a none) = unread source told p short has a none

pub reaches : (bytes : List ℕ) (v : Verdict) → IsVerdict bytes v → Reaches bytes v
reaches bytes TooLong h = long h
reaches bytes NoCertificate h = none_reaches bytes h.0 h.1
reaches bytes (Refused r) h = (let k = h.1 in refused k.source k.told h.0 k.has k.refused)
reaches bytes (Uncovered t edge) h = read (Uncovered t edge) h.source h.program h.pair h.certificate h.uncovered
reaches bytes UncoveredStore h = read UncoveredStore h.source h.program h.pair h.certificate h.uncovered
reaches bytes (Certified report) h =
    read (Certified report) h.source h.program h.pair h.certificate (h.solution, h.exact)

module _ (bytes : List ℕ) where
  -- an accepted source is not refused
  pub both : (source told other more : List ℕ) (p : ProgramBodies) (r : Refusal) → length bytes ≤ certificate_limit
      → HasSource bytes source told → HasSource bytes other more → IsAccepted [] source p → IsRefused other r → ⊥
  both source told other more p r short has with_other a refusal =
      let same = (one_source bytes source told other more short has with_other).0 in
      none_is_both Scales.Usual [] other p r (subst (λ s. IsAccepted [] s p) same a) refusal

  -- and its program is one
  pub programs_same : (source told other more : List ℕ) (p q : ProgramBodies) → length bytes ≤ certificate_limit
      → HasSource bytes source told → HasSource bytes other more → IsAccepted [] source p → IsAccepted [] other q
      → p ≡ q
  programs_same source told other more p q short has with_other a b =
      let same = (one_source bytes source told other more short has with_other).0 in
      one_program Scales.Usual Scales.Usual [] other p q (subst (λ s. IsAccepted [] s p) same a) b

  pub refusals_alike : (source told other more : List ℕ) (r s : Refusal) → length bytes ≤ certificate_limit
      → HasSource bytes source told → HasSource bytes other more → IsRefused source r → IsRefused other s
      → AreAlike (Refused r) (Refused s)
  refusals_alike source told other more r s short has with_other h k =
      let same = (one_source bytes source told other more short has with_other).0 in
      one_refusal Scales.Usual other r s (subst (λ x. IsRefused x r) same h) k

  -- ## The verdict on a certificate

  module _ (source : List ℕ) (p : ProgramBodies) (pair : Pair) (c : IsCertificate bytes source p pair) where
    pub is_program : IsProgram p
    is_program = accepted_is_program Scales.Usual [] source p c.accepted

    pub has_source : HasSource bytes source (lines_text (pair_lines pair))
    has_source = source_of_text bytes source pair c.is

    by_unread : (other told : List ℕ) (q : ProgramBodies) → HasSource bytes other told → IsAccepted [] other q
        → ((twin : Pair) → FitsPair q twin → bytes ≡ certificate_text other twin → ⊥) → ⊥
    unfolding has_source
    by_unread other told q has a none =
        let program : p ≡ q =
        programs_same source (lines_text (pair_lines pair)) other told p q c.short has_source has c.accepted a in
        let same = (one_source bytes source (lines_text (pair_lines pair)) other told c.short has_source has).0 in
        none pair (subst (λ r. FitsPair r pair) program c.fits)
        (subst (λ s. bytes ≡ certificate_text s pair) same c.is)

    -- what holds of each verdict on a pair of the source holds of each verdict on the bytes
    pub of_pairs : (P : Verdict → Type 0)
        → ((w : Verdict) (other : List ℕ) (q : ProgramBodies) (twin : Pair) → IsCertificate bytes other q twin
        → IsPairVerdict q twin w → P w)
        → (w : Verdict) → Reaches bytes w → P w
    unfolding has_source
    of_pairs P each _ (long h) = absurd (let short = c.short in omega (arith, h, short))
    of_pairs P each _ (unsplit short none) = absurd (none source (lines_text (pair_lines pair)) has_source)
    of_pairs P each _ (refused {r = r} other told short has h) =
        absurd (both source (lines_text (pair_lines pair)) other told p r short has_source has c.accepted h)
    of_pairs P each _ (unread other told q short has a none) = absurd (by_unread other told q has a none)
    of_pairs P each _ (read w other q twin d h) = each w other q twin d h

-- ## Certificates are tested

pair_tested : (p : ProgramBodies) (pair : Pair) (v : Verdict) → IsPairVerdict p pair v → TestsPair v
pair_tested p pair TooLong h = absurd h
pair_tested p pair NoCertificate h = absurd h
pair_tested p pair (Refused r) h = absurd h
pair_tested p pair (Uncovered t edge) h = tt
pair_tested p pair UncoveredStore h = tt
pair_tested p pair (Certified report) h = tt

pub certificates_are_tested : CertificatesAreTested
certificates_are_tested bytes source p pair c v h =
    of_pairs bytes source p pair c TestsPair (λ w other q twin d k. pair_tested q twin w k) v (reaches bytes v h)

-- ## Bytes that are refused

-- a verdict that tests no pair is a refusal
untested_refused : (v : Verdict) → (TestsPair v → ⊥) → verdict_status v ≡ Statuses.Refused
untested_refused TooLong h = refl
untested_refused NoCertificate h = refl
untested_refused (Refused r) h = refl
untested_refused (Uncovered t edge) h = absurd (h tt)
untested_refused UncoveredStore h = absurd (h tt)
untested_refused (Certified report) h = absurd (h tt)

-- it is of a certificate
tested_pair : (bytes : List ℕ) (v : Verdict) → Reaches bytes v → TestsPair v
    → (source : List ℕ) × (p : ProgramBodies) × (pair : Pair) × IsCertificate bytes source p pair
tested_pair bytes _ (long h) t = absurd t
tested_pair bytes _ (unsplit short none) t = absurd t
tested_pair bytes _ (refused source told short has h) t = absurd t
tested_pair bytes _ (unread source told p short has a none) t = absurd t
tested_pair bytes _ (read v source p pair c h) t = (source, p, pair, c)

-- where the bytes are no certificate, the status is that of a refusal
no_pair_refused : (bytes : List ℕ)
    → ((source : List ℕ) (p : ProgramBodies) (pair : Pair) → IsCertificate bytes source p pair → ⊥)
    → (v : Verdict) → IsVerdict bytes v → verdict_status v ≡ Statuses.Refused
no_pair_refused bytes none v h =
    untested_refused v (λ t. let of = tested_pair bytes v (reaches bytes v h) t in none of.0 of.1 of.2 of.3)

pub long_refused : (bytes : List ℕ) → certificate_limit < length bytes → (v : Verdict) → IsVerdict bytes v
    → verdict_status v ≡ Statuses.Refused
long_refused bytes more =
    no_pair_refused bytes (λ source p pair c. let short = c.short in omega (arith, more, short))

none_refused_by : (bytes : List ℕ) → IsNoCertificate bytes → (source : List ℕ) (p : ProgramBodies) (pair : Pair)
    → IsCertificate bytes source p pair → ⊥
none_refused_by bytes (no_source none) source p pair c = none source (lines_text (pair_lines pair)) (has_source bytes source p pair c)
none_refused_by bytes (no_pair other told q has a none) source p pair c =
    by_unread bytes source p pair c other told q has a none

pub none_refused : (bytes : List ℕ) → length bytes ≤ certificate_limit → IsNoCertificate bytes → (v : Verdict)
    → IsVerdict bytes v → verdict_status v ≡ Statuses.Refused
none_refused bytes short none = no_pair_refused bytes (none_refused_by bytes none)

pub source_refused : (bytes source told : List ℕ) (r : Refusal) → length bytes ≤ certificate_limit
    → HasSource bytes source told → IsRefused source r → (v : Verdict) → IsVerdict bytes v
    → verdict_status v ≡ Statuses.Refused
source_refused bytes source told r short has refusal =
    no_pair_refused bytes (λ other p pair c.
    both bytes other (lines_text (pair_lines pair)) source told p r short (has_source bytes other p pair c) has c.accepted
    refusal)
