use Rattle.std.proofs.Common.{◌≡◌, drop}
use Rattle.tm_typed.specs.TypeNames.{all_mentioned}
use Rattle.c_type_names.proofs.preparation.mention_all.Given as goal

abbrev pub invariant-specs : goal.invariant-specs
invariant-specs l = all_mentioned l.scope (drop l.spec-index l.specs) ≡ all_mentioned l.initial.scope l.specs
