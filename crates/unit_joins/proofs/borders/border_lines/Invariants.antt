use Rattle.std.proofs.Common.{◌≡◌, ◌≤◌, ◌+◌, ◌++◌, length}
use Rattle.source_marks.specs.Marks.{lines_of}
use Rattle.unit_joins.specs.Parts.{border_numbers}
use Rattle.unit_joins.proofs.borders.border_lines.Given as goal

-- the borders so far are found, and those that are left have numbers from here on
abbrev pub invariant-loop-borders : goal.invariant-loop-borders
invariant-loop-borders l = record {
  found : border_numbers 1 (lines_of l.text) ≡ l.borders.items ++ border_numbers l.number (lines_of l.rest);
  small : l.number + length l.rest ≤ 1 + length l.text;
}

abbrev pub decreases-loop-borders : goal.decreases-loop-borders
decreases-loop-borders l = length l.rest
