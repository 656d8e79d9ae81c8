use Rattle.std.proofs.Common.{◌≡◌, map, take}
use Rattle.unit_tokens.specs.declared.fates.Fated.{Fated}
use Rattle.unit_tokens.proofs.fates.with_fates.Given as goal

abbrev pub invariant-loop-index : goal.invariant-loop-index
invariant-loop-index l = map (λ (f : Fated). f.token) l.made.items ≡ take l.index l.tokens
