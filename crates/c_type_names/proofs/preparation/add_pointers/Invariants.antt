use Rattle.std.proofs.Common.{◌≡◌, drop}
use Rattle.tm_typed.specs.TypeNames.{pointed}
use Rattle.c_type_names.proofs.preparation.add_pointers.Given as goal

abbrev pub invariant-words : goal.invariant-words
invariant-words l = pointed (l.made, l.scope) (drop l.word-index l.words) ≡ pointed (l.initial.made, l.initial.scope) l.words
