use Rattle.std.proofs.Common.{◌≡◌, ◌++◌, take}
use Rattle.report_views.specs.Lines.{shown}
use Rattle.report_views.proofs.lines.push_name.Given as goal

abbrev pub invariant-loop-byte : goal.invariant-loop-byte
invariant-loop-byte l = l.text.items ≡ l.initial.text.items ++ shown (take l.byte-index l.name)
