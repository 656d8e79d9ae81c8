use Rattle.std.proofs.Common.{◌≡◌, ◌++◌, take}
use Rattle.std.specs.List.{flat_map}
use Rattle.solution_lines.specs.SolutionTexts.{dead_line}
use Rattle.solution_lines.proofs.lines.push_dead_places.Given as goal

-- the lines of the places so far are written
abbrev pub invariant-loop-place : goal.invariant-loop-place
invariant-loop-place l = l.text.items ≡ l.fn.text.items ++ flat_map dead_line (take l.place-index l.places)
