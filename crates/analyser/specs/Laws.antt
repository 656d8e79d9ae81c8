-- The laws of the answers to a source: each is the contract of a function that does nothing.
use Rattle.std.specs.Prelude.{◌≡◌, ℕ, List}
use Rattle.tm_terms.specs.declared.alarms.Alarm.{Alarm}
use Rattle.analyser.specs.Headline.{Reports}

-- with the same thresholds given, a source has one report
abbrev pub OneReport : Type 0
OneReport = (given bytes : List ℕ) (a b : List Alarm) → Reports given bytes a → Reports given bytes b → a ≡ b
