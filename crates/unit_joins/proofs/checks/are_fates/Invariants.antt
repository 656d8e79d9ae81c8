use Rattle.std.proofs.Common.{◌≡◌, map, take}
use Rattle.unit_tokens.specs.declared.fates.Fated.{Fated}
use Rattle.unit_joins.proofs.checks.are_fates.Given as goal

abbrev pub invariant-loop-k : goal.invariant-loop-k
invariant-loop-k l = map (λ (f : Fated). f.fate) (take l.k l.fated) ≡ take l.k l.fates
