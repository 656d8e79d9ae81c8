use Rattle.std.proofs.Common.{◌≡◌, map, take}
use Rattle.std.specs.List.{flat_map}
use Rattle.report_reading.specs.Ways.{way_line}
use Rattle.report_reading.specs.reading.Told.{way_seen}
use Rattle.report_reading.proofs.ways.written.Given as goal

abbrev pub invariant-loop-way : goal.invariant-loop-way
invariant-loop-way l = l.text.items ≡ flat_map way_line (map way_seen (take l.way-index l.ways))
