use Rattle.std.proofs.Common.{◌≡◌, take, string_bytes}
use Rattle.std.specs.List.{flat_map}
use Rattle.tm_terms.specs.Texts.{alarm_line}
use Rattle.tm_terms.proofs.texts.plain.Given as goal

-- the lines of the alarms so far are written
abbrev pub invariant-loop-alarm : goal.invariant-loop-alarm
invariant-loop-alarm l = string_bytes l.text ≡ flat_map alarm_line (take l.alarm-index l.alarm-items)
