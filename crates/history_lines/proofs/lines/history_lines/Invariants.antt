use Rattle.std.proofs.Common.{◌≡◌, take, string_bytes}
use Rattle.store_core.specs.Events.{past_of}
use Rattle.history_lines.specs.HistoryTexts.{history_text}
use Rattle.history_lines.proofs.lines.history_lines.Given as goal

-- the lines of the events so far are written
abbrev pub invariant-events : goal.invariant-events
invariant-events g l = string_bytes l.text ≡ history_text (past_of (take l.event-index l.events))
