use Rattle.std.proofs.Common.{◌≡◌, drop, map}
use Rattle.tm_typed.specs.TypedTrees.{rated}
use Rattle.tm_typed.specs.Rules.{has_structure}
use Rattle.c_expr_rules.proofs.calls.has_structure.Given as goal

-- none so far
abbrev pub invariant-loop-argument : goal.invariant-loop-argument
invariant-loop-argument l = has_structure (map rated (drop l.argument-index l.arguments)) ≡ has_structure (map rated l.arguments)
