-- Which forms of expressions the code takes together.
use Rattle.std.specs.Prelude.{Bool, true, false}
use Rattle.tm_terms.specs.ExprTrees.{Tree, an_infix, a_conditional, a_subscript, a_member, a_postfix}

-- the expression begins with an operand, behind which it goes on
abbrev pub begins_with_operand : Tree → Bool
begins_with_operand (an_infix left operator place right) = true
begins_with_operand (a_conditional condition place first second) = true
begins_with_operand (a_subscript array place index) = true
begins_with_operand (a_member object access place member member_place) = true
begins_with_operand (a_postfix operand operator place) = true
begins_with_operand _ = false
