use Rattle.std.proofs.Common.{◌≡◌, ◌++◌, drop}
use Rattle.std.specs.List.{filter_map}
use Rattle.tm_typed.specs.Functions.{called_function}
use Rattle.c_typing.proofs.bodies.called.Given as goal

abbrev pub invariant-uses : goal.invariant-uses
invariant-uses l = l.calls.items ++ filter_map called_function (drop l.one-index l.uses) ≡ filter_map called_function l.uses
