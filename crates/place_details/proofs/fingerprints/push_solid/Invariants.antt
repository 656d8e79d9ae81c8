use Rattle.std.proofs.Common.{◌≡◌, ◌++◌, take}
use Rattle.std.specs.Prelude.{filter}
use Rattle.place_details.specs.Fingerprints.{is_solid}
use Rattle.place_details.proofs.fingerprints.push_solid.Given as goal

abbrev pub invariant-loop-byte : goal.invariant-loop-byte
invariant-loop-byte l = l.to.items ≡ l.initial.to.items ++ filter is_solid (take l.byte-index l.part)
