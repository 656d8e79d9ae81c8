use Rattle.std.proofs.Common.{◌≡◌, take}
use Rattle.std.specs.List.{flat_map}
use Rattle.report_reading.specs.Assumptions.{assumption_line}
use Rattle.report_reading.proofs.assumptions.written.Given as goal

abbrev pub invariant-loop-assumption : goal.invariant-loop-assumption
invariant-loop-assumption l = l.text.items ≡ flat_map assumption_line (take l.assumption-index l.list)
