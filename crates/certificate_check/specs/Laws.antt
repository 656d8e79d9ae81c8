-- What is proved of certificates.
use Rattle.std.specs.Prelude.{◌≡◌, ◌⊎◌, ℕ, ◌≤◌, ◌^◌, List, [], length, Option}
use Rattle.tm_terms.specs.declared.alarms.Alarm.{Alarm}
use Rattle.mutex_configs.specs.tm_laid.declared.scales.Scale.{Scale}
use Rattle.program_reports.specs.interfere_set.Stores.{Interferences}
use Rattle.program_reports.specs.transfer_rows.StateForms.{State}
use Rattle.program_reports.specs.program_equations.Programs.{ProgramBodies}
use Rattle.program_reports.specs.program_equations.Solutions.{tables_of, IsPair}
use Rattle.program_reports.specs.post_recheck.Pairs.{Pair}
use Rattle.program_reports.specs.Reports.{IsReport}
use Rattle.source_programs.specs.Sources.{IsAcceptedOn}
use Rattle.source_programs.specs.Laws.{AreSyntaxErrors}
use Rattle.sound_core.specs.Soundness.{ListsAll}
use Rattle.certificate_check.specs.Certificates.{IsCertificate}
use Rattle.certificate_check.specs.Verdicts.{IsVerdict}
use Rattle.certificate_check.specs.declared.verdicts.Verdict.{Verdict}
use Rattle.certificate_check.specs.declared.verdicts.Verdict.TheVariants.{TooLong, NoCertificate, Refused, Uncovered}
use Rattle.certificate_check.specs.declared.verdicts.Verdict.TheVariants.{UncoveredStore, Certified}

-- they say the same, but for the place of a syntax error
abbrev pub AreAlike : Verdict → Verdict → Type 0
AreAlike TooLong TooLong = Unit {0}
AreAlike NoCertificate NoCertificate = Unit {0}
AreAlike (Refused r) (Refused s) = (r ≡ s) ⊎ AreSyntaxErrors r s
AreAlike (Uncovered t edge) (Uncovered u other) = (t ≡ u) × (edge ≡ other)
AreAlike UncoveredStore UncoveredStore = Unit {0}
AreAlike (Certified report) (Certified other) = report.alarms.items ≡ other.alarms.items
AreAlike v w = ⊥

-- bytes have one verdict
abbrev pub OneVerdict : Type 0
OneVerdict = (bytes : List ℕ) (v w : Verdict) → IsVerdict bytes v → IsVerdict bytes w → AreAlike v w

-- it certifies the report of the pair's tables
abbrev pub CertifiesPair : ProgramBodies → Pair → Verdict → Type 0
CertifiesPair p pair (Certified report) = IsReport p (tables_of pair.tables) report.alarms.items
CertifiesPair p pair v = ⊥

-- of a certificate whose pair is a solution nothing else may be said than that it is certified, with the pair's report
abbrev pub SolutionsAreCertified : Type 0
SolutionsAreCertified =
    (bytes source : List ℕ) (p : ProgramBodies) (pair : Pair) → IsCertificate bytes source p pair
    → IsPair p pair.tables pair.store → (v : Verdict) → IsVerdict bytes v → CertifiesPair p pair v

-- it is a verdict on tables and a store
abbrev pub TestsPair : Verdict → Type 0
TestsPair (Uncovered body edge) = Unit {0}
TestsPair UncoveredStore = Unit {0}
TestsPair (Certified report) = Unit {0}
TestsPair v = ⊥

-- of a certificate nothing may be said but what its tables and its store are
abbrev pub CertificatesAreTested : Type 0
CertificatesAreTested =
    (bytes source : List ℕ) (p : ProgramBodies) (pair : Pair) → IsCertificate bytes source p pair → (v : Verdict)
    → IsVerdict bytes v → TestsPair v

-- on each scale the report of a solution of the program of a source lists each error that occurs in a run of the source
abbrev pub ReportsListAll : Type 0
ReportsListAll =
    (scale : Scale) (given bytes : List ℕ) (p : ProgramBodies) (a : IsAcceptedOn scale given bytes p)
    → length a.laid.objects ≤ 2 ^ 32 → (tables : List (List (Option State))) (store : Interferences)
    → IsPair p tables store → (report : List Alarm) → IsReport p (tables_of tables) report → ListsAll a.laid report
