use Rattle.std.proofs.Common.{◌≡◌, take}
use Rattle.std.specs.List.{flat_map}
use Rattle.source_assumptions.specs.Lines.{choice_line}
use Rattle.source_assumptions.proofs.lines.choices_text.Given as goal

-- the lines of the choices so far are written
abbrev pub invariant-loop-choice : goal.invariant-loop-choice
invariant-loop-choice l = l.text.items ≡ flat_map choice_line (take l.choice-index l.choices)
