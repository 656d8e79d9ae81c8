use Rattle.std.proofs.Common.{ap, ◌∙◌, arith}
use Rattle.std.specs.Int.{w128}
use Rattle.std.proofs.lemmas.Int.{ints, to_z-of_z}
use Rattle.tm_cint.specs.Conversions.{converted_value}
use Rattle.c_folds.proofs.ConvertedValues.{outcome_along}
use Rattle.tm_typed.specs.Rules.{values_fold, fold_outcome}
use Rattle.c_folds.proofs.values.Goals as goal

pub returns : goal.returns
unfolding values_fold
returns c =
    let left = to_z-of_z w128 c.value_in-left.result (omega (arith, ints, c.value_in-left.type_inv)) ∙ c.value_in-left.ensures.value ∙ ap (λ z. converted_value z c.args.of) (to_z-of_z w128 c.args.left c.ranges.left) in
    let right = to_z-of_z w128 c.right_value-right.result (omega (arith, ints, c.right_value-right.type_inv)) ∙ c.right_value-right.ensures.value ∙ ap (λ z. converted_value z c.args.to) (to_z-of_z w128 c.args.right c.ranges.right) in
    c.outcome.ensures ∙ ap fold_outcome (c.arith.ensures ∙ outcome_along c.args.operator c.args.of left right)
