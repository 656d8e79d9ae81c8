-- What may be said of bytes as a certificate, and what that promises of the runs of the source in them.
use Rattle.std.specs.Prelude.{◌≡◌, ℕ, ◌<◌, ◌≤◌, List, [], length}
use Rattle.tm_terms.specs.declared.alarms.Alarm.{Alarm}
use Rattle.tm_terms.specs.declared.refusals.Refusal.{Refusal}
use Rattle.program_reports.specs.program_equations.Programs.{ProgramBodies}
use Rattle.program_reports.specs.program_equations.Solutions.{tables_of, IsPair, IsUncoveredAt, IsUncoveredStore}
use Rattle.program_reports.specs.post_recheck.Pairs.{Pair, FitsPair}
use Rattle.program_reports.specs.Reports.{IsReport}
use Rattle.source_programs.specs.Sources.{IsAccepted, IsRefused}
use Rattle.sound_core.specs.Soundness.{ListsAll}
use Rattle.certificate_texts.specs.Limits.{certificate_limit}
use Rattle.certificate_texts.specs.Certificates.{certificate_text}
use Rattle.certificate_check.specs.Heads.{HasSource}
use Rattle.certificate_check.specs.Certificates.{IsCertificate}
use Rattle.certificate_check.specs.declared.verdicts.Verdict.{Verdict}
use Rattle.certificate_check.specs.declared.verdicts.Verdict.TheVariants.{TooLong, NoCertificate, Refused, Uncovered}
use Rattle.certificate_check.specs.declared.verdicts.Verdict.TheVariants.{UncoveredStore, Certified}

-- no source stands in the bytes; or one that is accepted does, and they are the text of no tables and store that fit
-- its program
pub data IsNoCertificate (bytes : List ℕ) : Type 0 where
  no_source : ((source told : List ℕ) → HasSource bytes source told → ⊥) → IsNoCertificate bytes
  no_pair : (source told : List ℕ) (p : ProgramBodies) → HasSource bytes source told → IsAccepted [] source p
      → ((pair : Pair) → FitsPair p pair → bytes ≡ certificate_text source pair → ⊥) → IsNoCertificate bytes

module _ (bytes : List ℕ) where
  -- the source in the bytes is refused
  pub record RefusesSource (refusal : Refusal) : Type 0 where
    pub source : List ℕ
    pub told : List ℕ
    pub has : HasSource bytes source told
    pub refused : IsRefused source refusal

  -- the first edge that the tables of the certificate do not cover
  pub record LeavesUncovered (body edge : ℕ) : Type 0 where
    pub source : List ℕ
    pub program : ProgramBodies
    pub pair : Pair
    pub certificate : IsCertificate bytes source program pair
    pub uncovered : IsUncoveredAt program pair.tables pair.store body edge

  -- each edge is covered, and the store of the certificate is not
  pub record LeavesStoreUncovered : Type 0 where
    pub source : List ℕ
    pub program : ProgramBodies
    pub pair : Pair
    pub certificate : IsCertificate bytes source program pair
    pub uncovered : IsUncoveredStore program pair.tables pair.store

  -- The pair of the certificate is a solution of the program of its source, the report is that of its tables, and each
  -- error that occurs in an allowed run of the source stands in the report.
  pub record Certifies (report : List Alarm) : Type 0 where
    pub source : List ℕ
    pub program : ProgramBodies
    pub pair : Pair
    pub certificate : IsCertificate bytes source program pair
    pub solution : IsPair program pair.tables pair.store
    pub exact : IsReport program (tables_of pair.tables) report
    pub lists : (let c = certificate in let a = c.accepted in ListsAll a.laid report)

-- The first that is so, in this order: they are too long; they are no certificate, for want of a source; the source in
-- them is refused; they are no certificate, for want of tables and a store; the pair is no solution, or it is one.
abbrev pub IsVerdict : List ℕ → Verdict → Type 0
IsVerdict bytes TooLong = certificate_limit < length bytes
IsVerdict bytes NoCertificate = (length bytes ≤ certificate_limit) × IsNoCertificate bytes
IsVerdict bytes (Refused refusal) = (length bytes ≤ certificate_limit) × RefusesSource bytes refusal
IsVerdict bytes (Uncovered body edge) = LeavesUncovered bytes body edge
IsVerdict bytes UncoveredStore = LeavesStoreUncovered bytes
IsVerdict bytes (Certified report) = Certifies bytes report.alarms.items
