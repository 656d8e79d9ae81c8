use Rattle.std.proofs.Common.{◌≡◌, ◌++◌, take}
use Rattle.std.specs.List.{flat_map}
use Rattle.note_lines.specs.RingTexts.{ring_head, request_line}
use Rattle.note_lines.proofs.ring_lines.push_ring.Given as goal

-- the lines of the requests so far
abbrev pub invariant-loop-request : goal.invariant-loop-request
invariant-loop-request l = l.text.items ≡ l.fn.text.items ++ (ring_head l.ring
    ++ flat_map (request_line l.bytes l.names.tasks.items l.names.mutexes.items) (take l.request-index l.request-items))
