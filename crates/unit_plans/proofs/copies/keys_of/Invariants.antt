use Rattle.std.proofs.Common.{◌≡◌, map, take}
use Rattle.unit_plans.specs.Copies.{key_of}
use Rattle.unit_plans.proofs.copies.keys_of.Given as goal

abbrev pub invariant-loop-sight : goal.invariant-loop-sight
invariant-loop-sight l = l.keys.items ≡ map key_of (take l.sight-index l.sights)
