use Rattle.std.proofs.Common.{◌≡◌, drop, find}
use Rattle.tm_typed.specs.Files.{is_undefined}
use Rattle.c_typing.specs.Views.{found_of}
use Rattle.c_typing.proofs.closing.first_undefined.Given as goal

abbrev pub invariant-uses : goal.invariant-uses
invariant-uses l = find (λ u. is_undefined (found_of l.found) u.used) (drop l.one-index l.uses) ≡ find (λ u. is_undefined (found_of l.found) u.used) l.uses
