use Rattle.std.proofs.Common.{◌≡◌, ◌++◌}
use Rattle.note_lines.specs.AlarmTexts.{operands_below}
use Rattle.note_lines.proofs.alarm_lines.push_operands.Given as goal

-- the texts of the operands so far
abbrev pub invariant-loop-at : goal.invariant-loop-at
invariant-loop-at l = l.text.items ≡ l.fn.text.items
    ++ operands_below l.bytes l.names.objects.items l.alarm l.operation l.at
