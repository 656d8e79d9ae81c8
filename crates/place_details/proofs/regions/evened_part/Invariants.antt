use Rattle.std.proofs.Common.{◌≡◌, map, take}
use Rattle.place_details.specs.Regions.{evened}
use Rattle.place_details.proofs.regions.evened_part.Given as goal

abbrev pub invariant-loop-byte : goal.invariant-loop-byte
invariant-loop-byte l = l.text.items ≡ map evened (take l.byte-index l.part)
