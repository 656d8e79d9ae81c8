use Rattle.std.proofs.Common.{◌↔◌, IsTrue, ap, sym, subst, ◌∙◌, not}
use Rattle.std.proofs.lemmas.Result.{IfOk-weaker}
use Rattle.strided_dom.specs.Progression.{Has, IsExactly}
use Rattle.strided_dom.specs.Combinations.{IsProduct}
use Rattle.pointer_dom.specs.Advances.{directed}
use Rattle.edge_origins.specs.declared.origins.EdgeOrigin.{EdgeOrigin}
use Rattle.operand_orders.specs.reading.Views.{solved}
use Rattle.open_choices.specs.reading.Found.{target_of, MovesAway, IsMovedAway}
use Rattle.open_choices.proofs.Moving.{away}
use Rattle.open_choices.proofs.Unsets.{same_test}
use Rattle.open_choices.proofs.members.is_moved_away.Goals as goal

pub returns : goal.returns
returns c =
    let b = solved c.args.view in
    let edge = c.args.edge in
    let s = c.args.state.now in
    let source = c.args.source in
    let cells = c.args.cells in
    let minus = c.args.minus in
    let by = c.args.by in
    let target = c.in-Some.target in
    let p = c.pointers_of.result.now in
    let steps = c.distances-steps.result in
    let form = ap (λ (o : EdgeOrigin). target_of o.form) (sym c.origin.ensures) ∙ sym c.in-Some.ensures in
    let exact = subst (λ n. IsExactly (IsProduct n (directed (not minus) cells)) steps) c.numbers_of-counts.ensures
    c.distances-steps.ensures.distances in
    IfOk-weaker c.moves_away.result (λ x. IsTrue x ↔ MovesAway b target p (Has steps))
    (λ x. IsTrue x ↔ IsMovedAway b edge s source cells minus by)
    (λ x h. same_test x h (away b edge s source cells minus by target form p c.pointers_of.ensures steps exact))
    c.moves_away.ensures
