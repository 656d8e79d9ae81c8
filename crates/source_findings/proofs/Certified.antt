-- Certificates that `certify` writes, and that they are certified.
use Rattle.std.proofs.Common.{◌≡◌, sym, subst, inl, inr, ℕ, List, []}
use Rattle.std.specs.Prelude.{◌⊎◌, Result, Ok, Err, IfOk}
use Rattle.tm_terms.specs.declared.refusals.Refusal.{Refusal}
use Rattle.tm_terms.specs.Texts.{refusal_text}
use Rattle.program_solutions.specs.program_equations.Programs.{ProgramBodies}
use Rattle.program_solutions.specs.post_recheck.Pairs.{Pair}
use Rattle.program_solutions.specs.LeastReports.{IsLeastPair}
use Rattle.certificate_check.specs.source_programs.Sources.{IsAccepted, IsRefused}
use Rattle.certificate_check.specs.Certificates.{IsCertificate}
use Rattle.certificate_check.specs.VerdictTexts.{verdict_status, verdict_text}
use Rattle.certificate_check.specs.Laws.{CertifiesPair}
use Rattle.certificate_check.specs.declared.verdicts.Verdict.{Verdict}
use Rattle.certificate_check.specs.declared.verdicts.Verdict.TheVariants as Verdicts
use Rattle.certificate_check.proofs.OneVerdict.{solutions_are_certified}
use Rattle.program_streams.specs.declared.statuses.Status.{Status}
use Rattle.program_streams.specs.declared.statuses.Status.TheVariants.{Refused}
use Rattle.source_findings.specs.Findings.{Solves}
use Rattle.source_findings.specs.Certificates.{HasCertificate, IsRefusedBy, TellsLeastReport, WrittenIsCertified}
use Rattle.source_findings.specs.Tellings.{TellsCertificateOf}

-- what an answer says is what it says of another fact that follows from two
pub if_ok_both : {A E : Type 0} {P P' Q : A → Type 0} (r : Result A E) → IfOk r P → IfOk r P'
    → ((a : A) → P a → P' a → Q a) → IfOk r Q
if_ok_both (Ok a) h h' k = k a h h'
if_ok_both (Err e) h h' k = tt

-- ## What is written

pub certificate_told : (bytes : List ℕ) (p : ProgramBodies) (a : IsAccepted [] bytes p) (pair : Pair)
    → IsLeastPair p pair → (status : Status) (text : List ℕ) → TellsCertificateOf p bytes pair status text
    → HasCertificate bytes status text
certificate_told bytes p a pair least status text (inl t) =
    subst (λ s. HasCertificate bytes s text) (sym t.comes) (record {
      solves = record { program = p; accepted = a; pair = pair; least = least };
      small = t.small;
      is = t.is;
      short = t.short;
    })
certificate_told bytes p a pair least status text (inr t) =
    subst (λ s. HasCertificate bytes s text) (sym t.comes) (inr (record {
      solves = record { program = p; accepted = a; pair = pair; least = least };
      long = t.long;
      is = t.is;
    }))

pub refusal_told : (bytes : List ℕ) (refusal : Refusal) → IsRefused bytes refusal → (status : Status) (text : List ℕ)
    → status ≡ Refused → text ≡ refusal_text refusal → HasCertificate bytes status text
refusal_told bytes refusal h status text e f =
    subst (λ s. HasCertificate bytes s text) (sym e) (inl (record { refusal = refusal; refused = h; is = f }))

-- ## It is certified

tells : (bytes : List ℕ) (solves : Solves bytes) (v : Verdict) (status : Status) (text : List ℕ)
    → CertifiesPair solves.program solves.pair v → status ≡ verdict_status v → text ≡ verdict_text v
    → TellsLeastReport bytes status text
tells bytes solves Verdicts.TooLong status text h e f = absurd h
tells bytes solves Verdicts.NoCertificate status text h e f = absurd h
tells bytes solves (Verdicts.Refused refusal) status text h e f = absurd h
tells bytes solves (Verdicts.Uncovered body edge) status text h e f = absurd h
tells bytes solves Verdicts.UncoveredStore status text h e f = absurd h
tells bytes solves (Verdicts.Certified report) status text h e f = record {
  solves = solves;
  report = report.alarms.items;
  least = record { pair = solves.pair; least = solves.least; exact = h };
  comes = e;
  is = f;
}

pub written_is_certified : WrittenIsCertified
written_is_certified bytes certificate w status text h =
    let s = w.solves in
    let least = s.least in
    let c : IsCertificate certificate bytes s.program s.pair =
    record { short = w.short; accepted = s.accepted; small = w.small; fits = least.fits; is = w.is } in
    tells bytes s h.verdict status text
    (solutions_are_certified certificate bytes s.program s.pair c least.solution h.verdict h.is) h.comes h.says
