use Rattle.std.proofs.Common.{◌++◌, sym, ap, ◌∙◌, cond, [], arith}
use Rattle.std.proofs.lemmas.List.{append-nil, drop_all}
use Rattle.std.specs.FinMap.{entries}
use Rattle.tm_laid.specs.Layouts.{laid_tree, object_at}
use Rattle.edge_actions.specs.reading.Spans.{cells_led}
use Rattle.edge_actions.proofs.LeadingCells.{found_all, all_found, more_found}
use Rattle.edge_actions.proofs.targets.targets_at.Goals.{then-is_reachable+in_ok-targets, else-is_reachable}
use Rattle.edge_actions.proofs.targets.targets_at.Goals as goal

pub loop-object-init : goal.loop-object-init
loop-object-init c =
    ap (λ xs. xs ++ found_all (laid_tree c.args.laid.now) c.args.scalar c.args.task c.args.pointers.now c.entries-object-items.result.now) c.new-targets.ensures.items

pub loop-object-preserved : goal.loop-object-preserved
loop-object-preserved c =
    let a = c.args in
    let laid = laid_tree a.laid.now in
    let e = c.loop-object-item.result in
    let items = c.entries-object-items.result.now in
    let here = c.loop-object.targets.items in
    let led = cells_led laid a.scalar e.0 e.1.offsets (object_at laid e.0).cells in
    let more = more_found laid a.scalar a.task a.pointers.now items c.loop-object.object-index e here c.if-is_reachable.targets.items (found_all laid a.scalar a.task a.pointers.now items)
    c.loop-object-test.true c.loop-object-item.is c.loop-object.invariant in
    elim c.if-is_reachable.branch [
      | then-is_reachable+in_ok-targets w ↦ more (ap (λ t. t.items) w.targets-is ∙ w.in_ok-targets.ensures ∙ ap (λ b. here ++ cond b led []) (sym (sym c.is_reachable.ensures ∙ w.if-is_reachable.true)))
      | else-is_reachable w ↦ more (ap (λ t. t.items) w.targets-is ∙ sym (append-nil here) ∙ ap (λ b. here ++ cond b led []) (sym (sym c.is_reachable.ensures ∙ w.if-is_reachable.false)))
    ]

pub returns : goal.returns
returns c =
    let a = c.args in
    let laid = laid_tree a.laid.now in
    let items = c.entries-object-items.result.now in
    let here = c.loop-object.targets.items in
    sym (append-nil here)
    ∙ ap (λ es. here ++ found_all laid a.scalar a.task a.pointers.now es) (sym (drop_all c.loop-object.object-index items (omega (arith, c.loop-object-test.false))))
    ∙ c.loop-object.invariant
    ∙ ap (found_all laid a.scalar a.task a.pointers.now) (c.entries-object-items.ensures ∙ ap entries c.objects.ensures.value)
    ∙ all_found laid a.scalar a.task a.pointers.now
