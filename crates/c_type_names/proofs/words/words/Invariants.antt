use Rattle.std.proofs.Common.{◌≡◌, drop}
use Rattle.tm_typed.specs.Specifiers.{nothing_said}
use Rattle.tm_typed.specs.TypeNames.{words_said}
use Rattle.c_type_names.proofs.words.words.Given as goal

abbrev pub invariant-words : goal.invariant-words
invariant-words l = words_said l.scope l.said (drop l.spec-index l.specs) ≡ words_said l.scope nothing_said l.specs
