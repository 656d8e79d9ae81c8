use Rattle.std.proofs.Common.{◌≡◌, drop}
use Rattle.tm_typed.specs.TypeNames.{pointed_in}
use Rattle.c_type_names.proofs.pointers.pointed_in.Given as goal

abbrev pub invariant-words : goal.invariant-words
invariant-words l = pointed_in l.scope l.shape (drop l.word-index l.words) ≡ pointed_in l.scope l.initial.shape l.words
