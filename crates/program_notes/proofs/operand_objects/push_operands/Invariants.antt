use Rattle.std.proofs.Common.{◌≡◌, ◌++◌, take}
use Rattle.std.specs.List.{enumerate_from}
use Rattle.notes_json.specs.Pieces.{listed}
use Rattle.program_notes.specs.OperandTexts.{operand_text}
use Rattle.program_notes.proofs.operand_objects.push_operands.Given as goal

-- what is written so far
abbrev pub invariant-loop-at : goal.invariant-loop-at
invariant-loop-at l = l.text.items ≡ l.fn.text.items
    ++ listed (operand_text l.numbers l.flaws l.operation l.types) (take l.at (enumerate_from 0 l.operands))
