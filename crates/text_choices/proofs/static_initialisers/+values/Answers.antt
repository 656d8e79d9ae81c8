use Rattle.std.proofs.Common.{◌≡◌, ◌++◌, map, refl, ap, sym, subst, ◌∙◌, arith}
use Rattle.std.specs.Prelude.{OnOk}
use Rattle.tm_trees.specs.declared.declarations.Value.TheVariants as Values
use Rattle.tm_trees.specs.DeclarationTrees.{ValueTree, a_list, value_tree, as_values}
use Rattle.tm_trees.proofs.Rows.{value_tree-list}
use Rattle.tm_laid.specs.Layouts.{laid_tree}
use Rattle.text_choices.specs.reading.Files.{value_choices, values_choices}
use Rattle.text_choices.proofs.Pieces.{piece_more, pieces_all}
use Rattle.text_choices.proofs.static_initialisers.+values.Goals as goal

pub push_value-returns-in-List : goal.push_value-returns-in-List
push_value-returns-in-List t c =
    let i = c.in-List in
    let is : c.args.value.now ≡ Values.List i.values i.place = i.is in
    let e = ap value_tree is ∙ value_tree-list i.values i.place ∙ ap (λ vs. a_list (as_values (map value_tree vs)) i.place) (sym c.deref.ensures.value) in
    subst (λ (v : ValueTree). OnOk c.push_values.result (c.push_values.new.choices.items ≡ c.args.choices.now.items ++ value_choices (laid_tree c.args.laid.now) c.args.given v))
    (sym e) c.push_values.ensures

pub push_values-loop-value-preserved : goal.push_values-loop-value-preserved
push_values-loop-value-preserved t c =
    let laid = laid_tree c.args.laid.now in
    let given = c.args.given in
    let values = c.args.values.now in
    piece_more (λ vs. values_choices laid given (as_values (map value_tree vs))) (λ v. value_choices laid given (value_tree v)) values c.loop-value.value-index
    c.value-item.result c.loop-value.choices.items c.push_value.new.choices.items
    (c.args.choices.now.items ++ values_choices laid given (as_values (map value_tree values)))
    (λ _ _. refl) c.loop-value-test.true c.value-item.is c.in_ok-push_value.ensures c.loop-value.invariant

pub push_values-returns : goal.push_values-returns
push_values-returns t c =
    let laid = laid_tree c.args.laid.now in
    let given = c.args.given in
    let values = c.args.values.now in
    pieces_all (λ vs. values_choices laid given (as_values (map value_tree vs))) (λ v. value_choices laid given (value_tree v)) values c.loop-value.value-index
    c.loop-value.choices.items (c.args.choices.now.items ++ values_choices laid given (as_values (map value_tree values)))
    refl (omega arith) c.loop-value.invariant
