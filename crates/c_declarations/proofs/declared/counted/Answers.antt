use Rattle.std.proofs.Common.{◌≡◌, IfOk, Some, cond, map, ap, sym, subst, ◌∙◌}
use Rattle.tm_trees.specs.declared.declarations.Value.TheVariants as Values
use Rattle.tm_trees.specs.DeclarationTrees.{as_values, value_tree, initialiser_tree}
use Rattle.tm_trees.proofs.Rows.{value_tree-list}
use Rattle.tm_typed.specs.States.{State}
use Rattle.tm_typed.specs.Declarations.{Declared, count_values, with_count, counted, counted_by}
use Rattle.c_declarations.specs.reading.Declared.{with_value}
use Rattle.c_declarations.proofs.declared.counted.Goals as goal

pub returns-then-declared : goal.returns-then-declared
returns-then-declared c =
    let s = c.args.state.now in
    let i = c.args.initialiser.now in
    let d = with_value c.args.declared i in
    let vs = c.in-List.values in
    let there : i ≡ Some c.in-Some.value = c.in-Some.is in
    let listed : c.in-Some.value.value ≡ Values.List vs c.in-List.place = c.in-List.is in
    let e =
    ap (λ o. counted s d (initialiser_tree o)) there
    ∙ ap (λ v. counted_by s d (value_tree v)) listed
    ∙ ap (λ v. counted_by s d v) (value_tree-list vs c.in-List.place)
    ∙ ap (λ b. cond b (with_count s d (count_values (as_values (map value_tree vs.items)))) (d, s)) c.if-declared.true
    ∙ ap (λ xs. with_count s d (count_values (as_values (map value_tree xs)))) (sym c.deref.ensures.value) in
    subst (λ (m : Declared × State). IfOk c.with_count.result (λ x. m ≡ (with_value x i, c.with_count.new.state))) (sym e)
    c.with_count.ensures
