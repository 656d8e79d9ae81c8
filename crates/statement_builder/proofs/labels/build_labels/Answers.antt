use Rattle.std.proofs.Common.{rules, true, refl, sym, ap, ◌∙◌}
use Rattle.flow_graph.specs.declared.operations.Test.TheVariants as Tests
use Rattle.body_builder.specs.Fragments.{tree_in, so_far}
use Rattle.body_builder.specs.Placing.{tested, Finds}
use Rattle.statement_builder.proofs.Tests.{labels_more, labels_same}
use Rattle.statement_builder.proofs.labels.build_labels.Goals as goal
use Rattle.statement_builder.proofs.labels.build_labels.Goals.{in-Case+in_ok-found-in-Case+in_ok-push-in-Case}
use Rattle.statement_builder.proofs.labels.build_labels.Goals.{in-Default, in-Statement}

pub loop-part-preserved : goal.loop-part-preserved
loop-part-preserved c =
    let laid = tree_in c.args.here.now.laid.now in
    let path = c.args.here.now.path in
    let xs = c.args.cases.now in
    let i = c.loop-part.part-index in
    let before = so_far laid c.loop-part.to in
    let after = so_far laid c.match-part.to in
    elim c.match-part.branch [
      | in-Case+in_ok-found-in-Case+in_ok-push-in-Case w ↦
          let found : Finds (tested (Tests.Case true w.in-Case.label c.args.value) before) (so_far laid w.tested.new.to)
          w.in_ok-found-in-Case.found = search rules in
          labels_more laid path c.args.value xs i c.part-item.result w.in-Case.label w.in-Case.place
          c.loop-part.nodes.items c.match-part.nodes.items w.in_ok-found-in-Case.found w.node.result before
          (so_far laid w.tested.new.to) after _ c.loop-part-test.true (sym c.part-item.is ∙ w.in-Case.is)
          found w.node.ensures (ap (so_far laid) w.to-is ∙ w.goto.ensures)
          (ap (λ v. v.items) w.nodes-is ∙ w.in_ok-push-in-Case.ensures.items) c.loop-part.invariant
      | in-Default w ↦
          labels_same laid path c.args.value xs i c.part-item.result _ c.loop-part.nodes.items c.match-part.nodes.items
          before after _ c.loop-part-test.true (sym c.part-item.is ∙ w.in-Default.is) refl (ap (so_far laid) w.to-is)
          (ap (λ v. v.items) w.nodes-is) c.loop-part.invariant
      | in-Statement w ↦
          labels_same laid path c.args.value xs i c.part-item.result _ c.loop-part.nodes.items c.match-part.nodes.items
          before after _ c.loop-part-test.true (sym c.part-item.is ∙ w.in-Statement.is) refl (ap (so_far laid) w.to-is)
          (ap (λ v. v.items) w.nodes-is) c.loop-part.invariant
    ]
