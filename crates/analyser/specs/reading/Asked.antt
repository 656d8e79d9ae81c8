-- What commands ask about the bytes of a source.
use Rattle.std.specs.Prelude.{ℕ, Bool, List}
use Rattle.program_streams.specs.declared.statuses.Status.{Status}
use Rattle.source_findings.specs.Findings.{HasFinding}
use Rattle.source_findings.specs.Certificates.{HasCertificate}
use Rattle.analyser.specs.declared.replies.Asked.{Asked}
use Rattle.analyser.specs.declared.replies.Asked.TheVariants.{Report, Replay, Solution, Certificate}
use Rattle.analyser.specs.Headline.{HasAnswer, IsReplayed}

-- the status and the text that are the answer to what is asked about these bytes
abbrev pub AskedGives : Asked → List ℕ → Status → List ℕ → Type 0
AskedGives (Report words) bytes status text = HasAnswer words bytes status text
AskedGives Replay bytes status text = IsReplayed bytes status text
AskedGives (Solution finding) bytes status text = HasFinding finding bytes status text
AskedGives Certificate bytes status text = HasCertificate bytes status text

-- the manner in which it asks for a report, where it does, is one that is served
abbrev pub IsAnswerable : (ℕ → Bool → Type 0) → Asked → Type 0
IsAnswerable serves (Report words) = serves words.workers words.history
IsAnswerable serves Replay = Unit {0}
IsAnswerable serves (Solution finding) = Unit {0}
IsAnswerable serves Certificate = Unit {0}
