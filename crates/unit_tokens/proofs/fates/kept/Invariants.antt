use Rattle.std.proofs.Common.{◌≡◌, take}
use Rattle.std.specs.Prelude.{filter}
use Rattle.unit_tokens.specs.Fates.{is_kept}
use Rattle.unit_tokens.proofs.fates.kept.Given as goal

abbrev pub invariant-loop-one : goal.invariant-loop-one
invariant-loop-one l = l.made.items ≡ filter is_kept (take l.one-index l.fated)
