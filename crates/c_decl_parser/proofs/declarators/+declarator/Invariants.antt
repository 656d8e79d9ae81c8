use Rattle.std.proofs.Common.{◌+◌, ◌*◌}
use Rattle.c_decl_parser.proofs.declarators.+declarator.Given as goal

abbrev pub decreases-declarator_after : goal.decreases-declarator_after
decreases-declarator_after l = 2 * l.allowed

abbrev pub decreases-declarator : goal.decreases-declarator
decreases-declarator l = 2 * l.allowed + 1
