use Rattle.std.proofs.Common.{is_some, ap₂, ◌∙◌}
use Rattle.tm_typed.specs.Rules.{is_comparison}
use Rattle.tm_typed.specs.TypedTrees.{rvalue_tree}
use Rattle.body_builder.specs.concrete_steps.Places.{rvalue_place}
use Rattle.body_builder.specs.lowering.Table.{implied}
use Rattle.path_origins.specs.declared.origins.Form.TheVariants as Forms
use Rattle.path_origins.specs.Types.{either}
use Rattle.path_origins.specs.Noted.{behind, one_if}
use Rattle.path_origins.specs.Shown.{shown}
use Rattle.path_origins.specs.reading.Ends.{operator_end}
use Rattle.path_origins.proofs.Laws.{pair_behind}
use Rattle.path_origins.proofs.operators.binary_end.Goals as goal

pub returns : goal.returns
returns c =
    let l = rvalue_tree c.args.left.now in
    let r = rvalue_tree c.args.right.now in
    let both = shown c.note_implied-2.new.to in
    record {
      noted = pair_behind (shown c.args.to.now) (shown c.note_implied.new.to) both (shown c.operator_ends.new.to)
          (one_if (is_some (implied l)) (rvalue_place l) Forms.Conversion)
          (one_if (is_some (implied r)) (rvalue_place r) Forms.Conversion)
          (operator_end (is_comparison c.args.operator) (either c.args.operands.first c.args.operands.second)
          c.args.wanted c.args.place) c.in_ok-note_implied.ensures c.in_ok-note_implied-2.ensures
          (c.in_ok-operator_ends.ensures ∙ ap₂ (λ u v. behind both (operator_end u v c.args.wanted c.args.place))
          c.is_comparison.ensures c.either-is_either.ensures);
      given = c.computed.ensures;
    }
