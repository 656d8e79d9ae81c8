use Rattle.std.proofs.Common.{◌≡◌, ◌++◌, take, map}
use Rattle.std.specs.List.{join_with_byte, filter}
use Rattle.notes_json.specs.reading.Marks.{has_some}
use Rattle.program_notes.specs.OperandTexts.{is_of, one_flaw}
use Rattle.program_notes.proofs.operand_objects.push_flaws.Given as goal

-- the flaws so far, and whether there are any
abbrev pub invariant-loop-flaw : goal.invariant-loop-flaw
invariant-loop-flaw l = record {
  written : l.text.items ≡ l.fn.text.items
      ++ join_with_byte 124 (map one_flaw (filter (is_of l.object) (take l.flaw-index l.flaws)));
  others : l.others ≡ has_some (filter (is_of l.object) (take l.flaw-index l.flaws));
}
