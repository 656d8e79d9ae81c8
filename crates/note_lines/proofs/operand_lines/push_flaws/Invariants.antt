use Rattle.std.proofs.Common.{◌≡◌, ◌++◌, take}
use Rattle.std.specs.List.{flat_map}
use Rattle.note_lines.specs.OperandTexts.{flaw_line}
use Rattle.note_lines.proofs.operand_lines.push_flaws.Given as goal

-- the lines of the flaws so far
abbrev pub invariant-loop-flaw : goal.invariant-loop-flaw
invariant-loop-flaw l = l.text.items ≡ l.fn.text.items
    ++ flat_map (flaw_line l.bytes l.names.objects.items) (take l.flaw-index l.flaws)
