use Rattle.std.proofs.Common.{◌≡◌, ◌≤◌, ◌*◌, take}
use Rattle.std.specs.Prelude.{sum_by}
use Rattle.place_details.specs.Regions.{units_in}
use Rattle.place_details.proofs.regions.column_behind.Given as goal

abbrev pub invariant-loop-byte : goal.invariant-loop-byte
invariant-loop-byte l = (l.units ≡ sum_by units_in (take l.byte-index l.part)) × (l.units ≤ 2 * l.byte-index)
