use Rattle.std.proofs.Common.{◌≡◌, take, string_bytes}
use Rattle.std.specs.List.{flat_map}
use Rattle.solution_lines.specs.SolutionTexts.{wait_line}
use Rattle.solution_lines.proofs.lines.waits_text.Given as goal

-- the lines of the places so far are written
abbrev pub invariant-loop-place : goal.invariant-loop-place
invariant-loop-place l = string_bytes l.text ≡ flat_map wait_line (take l.place-index l.places)
