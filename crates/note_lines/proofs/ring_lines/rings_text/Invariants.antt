use Rattle.std.proofs.Common.{◌≡◌, take}
use Rattle.std.specs.List.{flat_map}
use Rattle.note_lines.specs.RingTexts.{ring_text}
use Rattle.note_lines.proofs.ring_lines.rings_text.Given as goal

-- the texts of the rings so far
abbrev pub invariant-loop-ring : goal.invariant-loop-ring
invariant-loop-ring l =
    l.text.items ≡ flat_map (ring_text l.bytes l.names.tasks.items l.names.mutexes.items) (take l.ring-index l.rings)
