use Rattle.std.proofs.Common.{◌≡◌, ◌++◌, take}
use Rattle.std.specs.List.{flat_map}
use Rattle.note_lines.specs.OperandTexts.{object_line}
use Rattle.note_lines.proofs.operand_lines.push_objects.Given as goal

-- the lines of the objects so far
abbrev pub invariant-loop-object : goal.invariant-loop-object
invariant-loop-object l = l.text.items ≡ l.fn.text.items
    ++ flat_map (object_line l.bytes l.names.objects.items) (take l.object-index l.object-items)
