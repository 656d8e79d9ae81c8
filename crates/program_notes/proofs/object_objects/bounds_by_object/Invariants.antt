use Rattle.std.proofs.Common.{◌≡◌, ℕ, ◌<◌, length, take, get_or}
use Rattle.std.specs.Prelude.{None}
use Rattle.program_notes.specs.ObjectTexts.{bounds_of}
use Rattle.program_notes.proofs.object_objects.bounds_by_object.Given as goal

-- those that the bounds so far are of
abbrev pub invariant-loop-of : goal.invariant-loop-of
invariant-loop-of l = record {
  long : length l.found.items ≡ l.count;
  each : (n : ℕ) → n < l.count → get_or l.found.items n None ≡ bounds_of (take l.of-index l.bounds) n;
}
