-- Bytes have one verdict.
use Rattle.std.proofs.Common.{◌≡◌, refl, subst, ℕ, ◌<◌, ◌≤◌, List, [], length, arith}
use Rattle.tm_terms.specs.declared.alarms.Alarm.{Alarm}
use Rattle.mutex_configs.specs.tm_laid.declared.scales.Scale.TheVariants as Scales
use Rattle.program_reports.specs.program_equations.Programs.{ProgramBodies, IsProgram}
use Rattle.program_reports.specs.program_equations.Solutions.{tables_of, IsPair}
use Rattle.program_reports.specs.post_recheck.Pairs.{Pair, FitsPair}
use Rattle.program_reports.specs.post_recheck.declared.solutions.Checked.{Checked}
use Rattle.program_reports.specs.post_recheck.declared.solutions.Checked.TheVariants as Checks
use Rattle.program_reports.specs.Reports.{IsReport}
use Rattle.program_reports.proofs.One.{one_report}
use Rattle.program_reports.proofs.low.post_recheck.One.{answer_is_one}
use Rattle.source_programs.proofs.Accepted.{accepted_is_program}
use Rattle.certificate_texts.specs.certificate_words.Words.{lines_text}
use Rattle.certificate_texts.specs.Limits.{certificate_limit}
use Rattle.certificate_texts.specs.Certificates.{pair_lines}
use Rattle.certificate_texts.proofs.OneText.{one_text}
use Rattle.certificate_check.specs.Certificates.{IsCertificate}
use Rattle.certificate_check.specs.Laws.{AreAlike, OneVerdict, CertifiesPair, SolutionsAreCertified}
use Rattle.certificate_check.specs.declared.verdicts.Verdict.{Verdict}
use Rattle.certificate_check.specs.declared.verdicts.Verdict.TheVariants.{TooLong, NoCertificate, Refused, Uncovered}
use Rattle.certificate_check.specs.declared.verdicts.Verdict.TheVariants.{UncoveredStore, Certified}
use Rattle.certificate_check.specs.reading.Parts.{IsPairVerdict}
use Rattle.certificate_check.proofs.InBytes.{one_source, source_of_text}
use Rattle.certificate_check.proofs.Reached.{Reaches, long, unsplit, refused, unread, read, reaches, both, programs_same}
use Rattle.certificate_check.proofs.Reached.{refusals_alike, of_pairs}

-- ## Verdicts on one pair

module _ (p : ProgramBodies) (is : IsProgram p) (pair : Pair) (fits : FitsPair p pair) where
  reports_same : (report other : List Alarm) → IsReport p (tables_of pair.tables) report
      → IsReport p (tables_of pair.tables) other → report ≡ other
  reports_same report other h k =
      one_report p is (tables_of pair.tables) (tables_of pair.tables) (λ t n lt node. refl) report other h k

  -- a solution leaves nothing uncovered
  no_edge : IsPair p pair.tables pair.store → (t edge : ℕ) → IsPairVerdict p pair (Uncovered t edge) → ⊥
  no_edge solution t edge k =
      let e : Checks.Solution pair ≡ Checks.Uncovered t edge =
      answer_is_one p is pair fits (Checks.Solution pair) (Checks.Uncovered t edge) (solution, refl) k in
      cc

  no_store : IsPair p pair.tables pair.store → IsPairVerdict p pair UncoveredStore → ⊥
  no_store solution k =
      let e : Checks.Solution pair ≡ Checks.UncoveredStore =
      answer_is_one p is pair fits (Checks.Solution pair) Checks.UncoveredStore (solution, refl) k in
      cc

  edge_and_store : (t edge : ℕ) → IsPairVerdict p pair (Uncovered t edge) → IsPairVerdict p pair UncoveredStore → ⊥
  edge_and_store t edge h k =
      let e : Checks.Uncovered t edge ≡ Checks.UncoveredStore =
      answer_is_one p is pair fits (Checks.Uncovered t edge) Checks.UncoveredStore h k in
      cc

  edges_same : (t edge u other : ℕ) → IsPairVerdict p pair (Uncovered t edge) → IsPairVerdict p pair (Uncovered u other)
      → (t ≡ u) × (edge ≡ other)
  edges_same t edge u other h k =
      let e : Checks.Uncovered t edge ≡ Checks.Uncovered u other =
      answer_is_one p is pair fits (Checks.Uncovered t edge) (Checks.Uncovered u other) h k in
      (cc, cc)

  pub pair_alike : (v w : Verdict) → IsPairVerdict p pair v → IsPairVerdict p pair w → AreAlike v w
  pair_alike TooLong w h k = absurd h
  pair_alike NoCertificate w h k = absurd h
  pair_alike (Refused r) w h k = absurd h
  pair_alike (Uncovered t edge) TooLong h k = absurd k
  pair_alike (Uncovered t edge) NoCertificate h k = absurd k
  pair_alike (Uncovered t edge) (Refused r) h k = absurd k
  pair_alike (Uncovered t edge) (Uncovered u other) h k = edges_same t edge u other h k
  pair_alike (Uncovered t edge) UncoveredStore h k = absurd (edge_and_store t edge h k)
  pair_alike (Uncovered t edge) (Certified other) h k = absurd (no_edge k.0 t edge h)
  pair_alike UncoveredStore TooLong h k = absurd k
  pair_alike UncoveredStore NoCertificate h k = absurd k
  pair_alike UncoveredStore (Refused r) h k = absurd k
  pair_alike UncoveredStore (Uncovered u other) h k = absurd (edge_and_store u other k h)
  pair_alike UncoveredStore UncoveredStore h k = tt
  pair_alike UncoveredStore (Certified other) h k = absurd (no_store k.0 h)
  pair_alike (Certified report) TooLong h k = absurd k
  pair_alike (Certified report) NoCertificate h k = absurd k
  pair_alike (Certified report) (Refused r) h k = absurd k
  pair_alike (Certified report) (Uncovered u other) h k = absurd (no_edge h.0 u other k)
  pair_alike (Certified report) UncoveredStore h k = absurd (no_store h.0 k)
  pair_alike (Certified report) (Certified other) h k =
      reports_same report.alarms.items other.alarms.items h.1 k.1

  -- a solution is certified with its report
  pair_certified : IsPair p pair.tables pair.store → (v : Verdict) → IsPairVerdict p pair v → CertifiesPair p pair v
  pair_certified solution TooLong h = absurd h
  pair_certified solution NoCertificate h = absurd h
  pair_certified solution (Refused r) h = absurd h
  pair_certified solution (Uncovered t edge) h = absurd (no_edge solution t edge h)
  pair_certified solution UncoveredStore h = absurd (no_store solution h)
  pair_certified solution (Certified report) h = h.1

-- ## The verdict on a certificate

module _ (bytes : List ℕ) where
  module _ (source : List ℕ) (p : ProgramBodies) (pair : Pair) (c : IsCertificate bytes source p pair) where
    is_program : IsProgram p
    is_program = accepted_is_program Scales.Usual [] source p c.accepted

    -- another pair of it is the same
    pairs_same : (other : List ℕ) (twin : Pair) → IsCertificate bytes other p twin → twin ≡ pair
    pairs_same other twin d =
        let texts = one_source bytes other (lines_text (pair_lines twin)) source (lines_text (pair_lines pair)) c.short
        (source_of_text bytes other twin d.is) (source_of_text bytes source pair c.is) in
        one_text p is_program c.small twin pair d.fits c.fits texts.1

    by_read : (P : Verdict → Type 0) → ((w : Verdict) → IsPairVerdict p pair w → P w) → (w : Verdict)
        (other : List ℕ) (q : ProgramBodies) (twin : Pair) → IsCertificate bytes other q twin
        → IsPairVerdict q twin w → P w
    by_read P each w other q twin d h =
        let program : q ≡ p =
        programs_same bytes other (lines_text (pair_lines twin)) source (lines_text (pair_lines pair)) q p c.short
        (source_of_text bytes other twin d.is) (source_of_text bytes source pair c.is) d.accepted c.accepted in
        let here : IsCertificate bytes other p twin = subst (λ r. IsCertificate bytes other r twin) program d in
        let same : twin ≡ pair = pairs_same other twin here in
        each w (subst (λ t. IsPairVerdict p t w) same (subst (λ r. IsPairVerdict r twin w) program h))

    -- what holds of each verdict on its pair holds of each verdict on the bytes
    of_certificate : (P : Verdict → Type 0) → ((w : Verdict) → IsPairVerdict p pair w → P w) → (w : Verdict)
        → Reaches bytes w → P w
    of_certificate P each = of_pairs bytes source p pair c P (by_read P each)

  -- ## One verdict

  alike : (v w : Verdict) → Reaches bytes v → Reaches bytes w → AreAlike v w
  alike v _ h (read w source p pair c k) =
      of_certificate source p pair c (λ x. AreAlike x w)
      (λ x g. pair_alike p (accepted_is_program Scales.Usual [] source p c.accepted) pair c.fits x w g k) v h
  alike _ w (read v source p pair c k) h =
      of_certificate source p pair c (λ x. AreAlike v x)
      (λ x g. pair_alike p (accepted_is_program Scales.Usual [] source p c.accepted) pair c.fits v x k g) w h
  alike _ _ (long h) (long k) = tt
  alike _ _ (long h) (unsplit short none) = absurd (omega (arith, h, short))
  alike _ _ (long h) (refused source told short has k) = absurd (omega (arith, h, short))
  alike _ _ (long h) (unread source told p short has a none) = absurd (omega (arith, h, short))
  alike _ _ (unsplit short none) (long k) = absurd (omega (arith, k, short))
  alike _ _ (unsplit short none) (unsplit s n) = tt
  alike _ _ (unsplit short none) (refused source told s has k) = absurd (none source told has)
  alike _ _ (unsplit short none) (unread source told p s has a n) = absurd (none source told has)
  alike _ _ (refused source told short has h) (long k) = absurd (omega (arith, k, short))
  alike _ _ (refused source told short has h) (unsplit s none) = absurd (none source told has)
  alike _ _ (refused {r = r} source told short has h) (refused {r = s} other more few with_other k) =
      refusals_alike bytes source told other more r s short has with_other h k
  alike _ _ (refused {r = r} source told short has h) (unread other more p few with_other a none) =
      absurd (both bytes other more source told p r short with_other has a h)
  alike _ _ (unread source told p short has a none) (long k) = absurd (omega (arith, k, short))
  alike _ _ (unread source told p short has a none) (unsplit s n) = absurd (n source told has)
  alike _ _ (unread source told p short has a none) (refused {r = r} other more few with_other k) =
      absurd (both bytes source told other more p r short has with_other a k)
  alike _ _ (unread source told p short has a none) (unread other more q few with_other b n) = tt

pub one_verdict : OneVerdict
one_verdict bytes v w h k = alike bytes v w (reaches bytes v h) (reaches bytes w k)

pub solutions_are_certified : SolutionsAreCertified
solutions_are_certified bytes source p pair c solution v h =
    of_certificate bytes source p pair c (CertifiesPair p pair)
    (pair_certified p (accepted_is_program Scales.Usual [] source p c.accepted) pair c.fits solution) v
    (reaches bytes v h)
