use Rattle.std.proofs.Common.{◌≡◌, ◌-◌, [], map}
use Rattle.tm_trees.specs.DeclarationTrees.{length_tree}
use Rattle.c_decl_parser.specs.reading.DeclarationDescent.{lengths_from}
use Rattle.c_decl_parser.proofs.declarators.lengths.Given as goal

-- the rest of the reading gives what the whole gives
abbrev pub invariant-lengths : goal.invariant-lengths
invariant-lengths l =
    lengths_from l.types l.allowed (l.limit - l._i) (map length_tree l.found.items) l.rest ≡ lengths_from l.types l.allowed l.limit [] l.tokens
