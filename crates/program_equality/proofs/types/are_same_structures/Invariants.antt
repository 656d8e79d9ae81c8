use Rattle.std.proofs.Common.{◌≡◌, take, map}
use Rattle.tm_typed.specs.Scopes.{structure_of}
use Rattle.program_equality.proofs.types.are_same_structures.Given as goal

abbrev pub invariant-loop-index : goal.invariant-loop-index
invariant-loop-index l = take l.index (map structure_of l.one) ≡ take l.index (map structure_of l.other)
