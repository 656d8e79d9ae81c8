-- Why there is no log.
use Rattle.std.specs.Prelude.{◌≡◌, ◌<◌, ◌≤◌, ℕ, false, List, ◌++◌, ◌∷◌, [], length, codes, IsTrue, IsUtf8}
use Rattle.std.specs.Prelude.{Option, Some, None, option_and_then, option_map}
use Rattle.std.specs.List.{list_all}
use Rattle.serde_json.specs.Data.{Data}
use Rattle.serde_json.specs.Find.{as_array}
use Rattle.serde_json.specs.Read.{read}
use Rattle.log_baselines.specs.Logs.{is_own, list_of, prints_of, results_of, run_of}
use Rattle.log_baselines.specs.Suppressions.{is_reasoned}
use Rattle.log_baselines.specs.declared.causes.Flaw.{Flaw}
use Rattle.log_baselines.specs.declared.causes.Flaw.TheVariants.{Long, NotJson, NotLog, OtherTool, NoFingerprint}
use Rattle.log_baselines.specs.declared.causes.Cause.{Cause}
use Rattle.log_baselines.specs.declared.causes.Cause.TheVariants.{New, Old, NoReason, OtherRemarks}

-- ## Logs

-- the most bytes of a log
abbrev pub longest_log : ℕ
longest_log = 67108864

-- the bytes are JSON, with this value
abbrev pub IsValueOf : List ℕ → Data → Type 0
IsValueOf bytes value = (length bytes ≤ longest_log) × IsUtf8 bytes × (read bytes ≡ Some value)

-- a value is a log of this tool with this run, which has found these results
abbrev pub IsLog : Data → Data → List Data → Type 0
IsLog log run results = (run_of log ≡ Some run) × IsTrue (is_own run) × (results_of run ≡ Some results)

-- for this a value is no log of this tool, of results with fingerprints
abbrev pub HasFlaw : Data → Flaw → Type 0
HasFlaw log Long = ⊥
HasFlaw log NotJson = ⊥
HasFlaw log NotLog = option_and_then results_of (run_of log) ≡ None
HasFlaw log OtherTool = (run : Data) × (run_of log ≡ Some run) × (is_own run ≡ false)
HasFlaw log NoFingerprint =
    (run : Data) × (results : List Data) × IsLog log run results × (prints_of results ≡ None)

-- for this bytes are no log of this tool, of results with fingerprints
abbrev pub IsFlaw : List ℕ → Flaw → Type 0
IsFlaw bytes Long = longest_log < length bytes
IsFlaw bytes NotJson = IsUtf8 bytes → read bytes ≡ None
IsFlaw bytes NotLog = (log : Data) × IsValueOf bytes log × HasFlaw log NotLog
IsFlaw bytes OtherTool = (log : Data) × IsValueOf bytes log × HasFlaw log OtherTool
IsFlaw bytes NoFingerprint = (log : Data) × IsValueOf bytes log × HasFlaw log NoFingerprint

-- ## Remarks

-- the values of an array
abbrev pub values_of : Data → Option (List Data)
values_of value = option_map list_of (as_array value)

-- the bytes are JSON, an array of these values
abbrev pub AreRemarks : List ℕ → List Data → Type 0
AreRemarks bytes values = (value : Data) × IsValueOf bytes value × (values_of value ≡ Some values)

-- ## Causes

-- the bytes are a log of this tool, and a suppression that is to be kept does not say why
abbrev pub HasNoReason : List ℕ → Type 0
HasNoReason bytes =
    (log : Data) × (run : Data) × (results : List Data) × IsValueOf bytes log × IsLog log run results
    × (list_all is_reasoned results ≡ false)

-- this is the cause for which a log, with remarks on its results, has no log by an old one
abbrev pub IsCause : List ℕ → List ℕ → Option (List ℕ) → Cause → Type 0
IsCause new remarks old (New flaw) = IsFlaw new flaw
IsCause new remarks old (Old flaw) = (bytes : List ℕ) × (old ≡ Some bytes) × IsFlaw bytes flaw
IsCause new remarks old NoReason = (bytes : List ℕ) × (old ≡ Some bytes) × HasNoReason bytes
IsCause new remarks old OtherRemarks =
    (log : Data) × (run : Data) × (results : List Data) × IsValueOf new log × IsLog log run results
    × ((values : List Data) → AreRemarks remarks values → length values ≡ length results → ⊥)

-- ## The lines that tell a cause

-- what is wrong with a log
abbrev pub flaw_text : Flaw → List ℕ
flaw_text Long = codes " has more than 67108864 bytes"
flaw_text NotJson = codes " is no JSON"
flaw_text NotLog = codes " is no log of one run with results"
flaw_text OtherTool = codes " is of another tool"
flaw_text NoFingerprint = codes " has a result without a fingerprint cedratcleat/v1"

-- a line that begins with `refused: `
abbrev pub refused : List ℕ → List ℕ
refused text = codes "refused: " ++ (text ++ 10 ∷ [])

abbrev pub cause_text : Cause → List ℕ
cause_text (New flaw) = refused (codes "the new log" ++ flaw_text flaw)
cause_text (Old flaw) = refused (codes "the old log" ++ flaw_text flaw)
cause_text NoReason = refused (codes "an external suppression of the old log has no justification")
cause_text OtherRemarks = refused (codes "the remarks are no array with one for each result of the new log")
