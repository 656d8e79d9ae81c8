-- What `certify` answers: a source with its least solution, as a certificate; and that it is certified.
use Rattle.std.specs.Prelude.{◌≡◌, ◌⊎◌, ℕ, ◌<◌, ◌≤◌, List, [], length}
use Rattle.tm_terms.specs.declared.alarms.Alarm.{Alarm}
use Rattle.tm_terms.specs.declared.refusals.Refusal.{Refusal}
use Rattle.tm_terms.specs.Texts.{refusal_text}
use Rattle.program_solutions.specs.LeastReports.{IsLeastReport}
use Rattle.certificate_check.specs.source_programs.Sources.{IsRefused}
use Rattle.certificate_check.specs.certificate_texts.Limits.{certificate_limit}
use Rattle.certificate_check.specs.certificate_texts.Sizes.{HasSmallNumbers}
use Rattle.certificate_check.specs.certificate_texts.Certificates.{certificate_text}
use Rattle.certificate_check.specs.VerdictTexts.{HasChecked, certified_status, certified_text, too_long_line}
use Rattle.program_streams.specs.declared.statuses.Status.{Status}
use Rattle.program_streams.specs.declared.statuses.Status.TheVariants.{NoAlarm, Alarms, Refused, Usage, ReadFault}
use Rattle.program_streams.specs.declared.statuses.Status.TheVariants.{WriteFault, NoMemory}
use Rattle.source_findings.specs.Findings.{Solves}

-- the text of the source and its least solution, which is not too long; the numbers of its program are below 2^64, as
-- in every program that code holds
pub record WritesCertificate (bytes text : List ℕ) : Type 0 where
  pub solves : Solves bytes
  pub small : (let s = solves in HasSmallNumbers s.program)
  pub is : (let s = solves in text ≡ certificate_text bytes s.pair)
  pub short : length text ≤ certificate_limit

-- that text is too long
pub record ExceedsCertificate (bytes text : List ℕ) : Type 0 where
  pub solves : Solves bytes
  pub long : (let s = solves in certificate_limit < length (certificate_text bytes s.pair))
  pub is : text ≡ too_long_line

-- the source is refused
pub record IsRefusedBy (bytes text : List ℕ) : Type 0 where
  pub refusal : Refusal
  pub refused : IsRefused bytes refusal
  pub is : text ≡ refusal_text refusal

-- The status and the text that `certify` answers these bytes with.
abbrev pub HasCertificate : List ℕ → Status → List ℕ → Type 0
HasCertificate bytes NoAlarm text = WritesCertificate bytes text
HasCertificate bytes Alarms text = ⊥
HasCertificate bytes Refused text = IsRefusedBy bytes text ⊎ ExceedsCertificate bytes text
HasCertificate bytes Usage text = ⊥
HasCertificate bytes ReadFault text = ⊥
HasCertificate bytes WriteFault text = ⊥
HasCertificate bytes NoMemory text = ⊥

-- ## What is written is certified

-- the report of the least solution of the source, and behind it that it is certified
pub record TellsLeastReport (bytes : List ℕ) (status : Status) (text : List ℕ) : Type 0 where
  pub solves : Solves bytes
  pub report : List Alarm
  pub least : (let s = solves in IsLeastReport s.program report)
  pub comes : status ≡ certified_status report
  pub is : text ≡ certified_text report

-- whatever `check` answers a certificate that was written with is this
abbrev pub WrittenIsCertified : Type 0
WrittenIsCertified =
    (bytes certificate : List ℕ) → WritesCertificate bytes certificate → (status : Status) (text : List ℕ)
    → HasChecked certificate status text → TellsLeastReport bytes status text
