use Rattle.std.proofs.Common.{◌↔◌, ℕ, take}
use Rattle.std.specs.Prelude.{Contains}
use Rattle.access_races.specs.declared.accesses.Way.{Way as AWay}
use Rattle.access_races.specs.reading.Ways.{list_at, IsWayTo}
use Rattle.access_races.proofs.ways.ways_by_cell.Given as goal

abbrev pub invariant-loop-access : goal.invariant-loop-access
invariant-loop-access l = (c : ℕ) (w : AWay) → Contains (list_at l.ways.items c) w
    ↔ IsWayTo (take l.access-index l.accesses) c w
