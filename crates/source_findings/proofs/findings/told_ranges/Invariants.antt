use Rattle.std.proofs.Common.{◌≡◌, take}
use Rattle.std.specs.List.{flat_map}
use Rattle.source_findings.specs.Tellings.{bounds_line_of}
use Rattle.source_findings.proofs.findings.told_ranges.Given as goal

-- the lines of the objects so far are written
abbrev pub invariant-loop-bounds : goal.invariant-loop-bounds
invariant-loop-bounds l =
    l.text.items ≡ flat_map (bounds_line_of l.bytes l.program.laid.objects.items) (take l.bounds-index l.bounds-items)
