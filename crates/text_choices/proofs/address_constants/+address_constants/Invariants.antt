use Rattle.std.proofs.Common.{◌+◌, ◌*◌, max}
use Rattle.tm_terms.specs.ExprTrees.{tree_of, height}
use Rattle.text_choices.proofs.address_constants.+address_constants.Given as goal

abbrev pub decreases-designated : goal.decreases-designated
decreases-designated l = 6 * height (tree_of l.expr.now)

abbrev pub decreases-array_pointed : goal.decreases-array_pointed
decreases-array_pointed l = 6 * height (tree_of l.expr.now) + 1

abbrev pub decreases-sum_pointed : goal.decreases-sum_pointed
decreases-sum_pointed l = 6 * max (height (tree_of l.left.now)) (height (tree_of l.right.now)) + 8

abbrev pub decreases-difference_pointed : goal.decreases-difference_pointed
decreases-difference_pointed l = 6 * max (height (tree_of l.left.now)) (height (tree_of l.right.now)) + 8

abbrev pub decreases-infix_pointed : goal.decreases-infix_pointed
decreases-infix_pointed l = 6 * max (height (tree_of l.left.now)) (height (tree_of l.right.now)) + 9

abbrev pub decreases-prefix_pointed : goal.decreases-prefix_pointed
decreases-prefix_pointed l = 6 * height (tree_of l.operand.now) + 8

abbrev pub decreases-pointed : goal.decreases-pointed
decreases-pointed l = 6 * height (tree_of l.expr.now) + 5
