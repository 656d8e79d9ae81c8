use Rattle.std.proofs.Common.{◌≡◌, ◌++◌, take}
use Rattle.notes_json.specs.Pieces.{listed}
use Rattle.program_notes.specs.OperandTexts.{pointed_text}
use Rattle.program_notes.proofs.operand_objects.push_all_pointed.Given as goal

-- what is written so far
abbrev pub invariant-loop-at : goal.invariant-loop-at
invariant-loop-at l = l.text.items ≡ l.fn.text.items
    ++ listed (pointed_text l.numbers l.flaws) (take l.at l.objects)
