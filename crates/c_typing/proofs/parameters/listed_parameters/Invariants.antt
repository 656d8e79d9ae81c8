use Rattle.std.proofs.Common.{◌≡◌, drop, map}
use Rattle.tm_trees.specs.FileTrees.{parameter_tree}
use Rattle.tm_typed.specs.Functions.{listed_parameters}
use Rattle.c_typing.proofs.parameters.listed_parameters.Given as goal

abbrev pub invariant-parameters : goal.invariant-parameters
invariant-parameters l = listed_parameters l.state (map parameter_tree (drop l.parameter-index l.parameters)) ≡ listed_parameters l.initial.state (map parameter_tree l.parameters)
