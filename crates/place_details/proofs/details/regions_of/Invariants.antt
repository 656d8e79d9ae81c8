use Rattle.std.proofs.Common.{◌≡◌, map, take}
use Rattle.place_details.specs.Details.{region_of}
use Rattle.place_details.specs.reading.Seen.{sight_seen}
use Rattle.place_details.proofs.details.regions_of.Given as goal

abbrev pub invariant-loop-sight : goal.invariant-loop-sight
invariant-loop-sight l =
    l.regions.items ≡ map (region_of l.known.text.now l.known.lines.now) (map sight_seen (take l.sight-index l.sights))
