use Rattle.std.proofs.Common.{◌≡◌, ◌≤◌, drop, length, map}
use Rattle.tm_typed.specs.TypedTrees.{rated, as_rvalues}
use Rattle.c_expr_rules.proofs.GivenLists.{behind_given}
use Rattle.tm_typed.specs.Rules.{all_given}
use Rattle.c_expr_rules.proofs.calls.all_given.Given as goal

abbrev pub invariant-each : goal.invariant-each
invariant-each l = record {
  same : behind_given (as_rvalues l.all.items) (all_given l.scope (map rated l.argument-iterator.rest.items) (drop l.index l.parameters)) ≡ all_given l.scope (map rated l.fn.arguments.items) l.fn.parameters;
  within : l.index ≤ length l.parameters;
}
