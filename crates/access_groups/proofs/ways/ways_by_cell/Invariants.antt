use Rattle.std.proofs.Common.{◌↔◌, ℕ, take}
use Rattle.std.specs.Prelude.{Contains}
use Rattle.access_races.specs.declared.accesses.Way.{Way as AWay}
use Rattle.access_races.specs.reading.Ways.{list_at}
use Rattle.access_groups.specs.reading.Sites.{IsWayOfSite}
use Rattle.access_groups.proofs.ways.ways_by_cell.Given as goal

abbrev pub invariant-loop-site : goal.invariant-loop-site
invariant-loop-site l = (c : ℕ) (w : AWay) → Contains (list_at l.ways.items c) w
    ↔ IsWayOfSite (take l.site-index l.sites) c w
