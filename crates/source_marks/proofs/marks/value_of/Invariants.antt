use Rattle.std.proofs.Common.{◌≡◌, ◌≤◌, ◌+◌, ◌-◌, ◌*◌, drop}
use Rattle.std.specs.Prelude.{fold}
use Rattle.source_marks.specs.Marks.{decimal_value, greatest_line}
use Rattle.source_marks.proofs.marks.value_of.Given as goal

abbrev pub invariant-loop-digit : goal.invariant-loop-digit
invariant-loop-digit l =
    (l.value ≤ greatest_line)
    × (decimal_value l.digits ≡ fold (λ v d. v * 10 + (d - 48)) l.value (drop l.digit-index l.digits))
