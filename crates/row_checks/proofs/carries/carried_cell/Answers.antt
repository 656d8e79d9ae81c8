use Rattle.std.proofs.Common.{◌≡◌, ◌∙◌, ap, sym}
use Rattle.std.proofs.lemmas.Result.{IfOk-weaker}
use Rattle.tm_laid.specs.Layouts.{laid_tree}
use Rattle.flow_graph.specs.declared.operations.Operation.TheVariants as Op
use Rattle.sparse_rows.specs.Carried.{carried_by}
use Rattle.edge_actions.specs.Edges.{around_of, action_of, action_at}
use Rattle.row_checks.proofs.Others.{others_leave}
use Rattle.row_checks.proofs.carries.carried_cell.Goals as goal
use Rattle.row_checks.proofs.carries.carried_cell.Goals.{in_default-via-in-Probe+else-not-view, in_default-via-in_default}

pub returns-in-Lock : goal.returns-in-Lock
unfolding carried_by
returns-in-Lock c =
    let view = c.args.view.now in
    IfOk-weaker c.taken.result _ _ (λ after is. is
    ∙ sym (ap (λ op. carried_by (around_of view) (action_of (laid_tree view.laid.now) view.task view.tests_pointer
    view.answer op) c.args.store.now c.args.cell c.args.entry.now) c.in-Lock.is)) c.taken.ensures

pub returns-in-Unlock : goal.returns-in-Unlock
unfolding carried_by
returns-in-Unlock c =
    let view = c.args.view.now in
    IfOk-weaker c.released.result _ _ (λ after is. is
    ∙ sym (ap (λ op. carried_by (around_of view) (action_of (laid_tree view.laid.now) view.task view.tests_pointer
    view.answer op) c.args.store.now c.args.cell c.args.entry.now) c.in-Unlock.is)) c.released.ensures

pub returns-in-Yield : goal.returns-in-Yield
unfolding carried_by
returns-in-Yield c =
    let view = c.args.view.now in
    IfOk-weaker c.aged.result _ _ (λ after is. is
    ∙ sym (ap (λ op. carried_by (around_of view) (action_of (laid_tree view.laid.now) view.task view.tests_pointer
    view.answer op) c.args.store.now c.args.cell c.args.entry.now) c.in-Yield.is)) c.aged.ensures

pub returns-in-Probe : goal.returns-in-Probe
unfolding carried_by
returns-in-Probe c =
    let view = c.args.view.now in
    let p = c.in-Probe in
    IfOk-weaker c.taken-in-Probe.result _ _ (λ after is. is
    ∙ sym (ap (λ op. carried_by (around_of view) (action_of (laid_tree view.laid.now) view.task view.tests_pointer
    view.answer op) c.args.store.now c.args.cell c.args.entry.now) p.is
    ∙ ap (λ answer. carried_by (around_of view) (action_of (laid_tree view.laid.now) view.task view.tests_pointer
    answer (Op.Probe p.to p.mutex p.place)) c.args.store.now c.args.cell c.args.entry.now) c.if-not-view.true))
    c.taken-in-Probe.ensures

pub returns-in_ok-copied-in_default : goal.returns-in_ok-copied-in_default
unfolding carried_by
returns-in_ok-copied-in_default c =
    let view = c.args.view.now in
    let same : carried_by (around_of view) (action_at view) c.args.store.now c.args.cell c.args.entry.now
    ≡ c.args.entry.now = elim c.in_default.branch [
      | in_default-via-in-Probe+else-not-view w ↦
          (let p = w.in-Probe in
          ap (λ op. carried_by (around_of view) (action_of (laid_tree view.laid.now) view.task view.tests_pointer
          view.answer op) c.args.store.now c.args.cell c.args.entry.now) p.is
          ∙ ap (λ answer. carried_by (around_of view) (action_of (laid_tree view.laid.now) view.task view.tests_pointer
          answer (Op.Probe p.to p.mutex p.place)) c.args.store.now c.args.cell c.args.entry.now) w.if-not-view.false)
      | in_default-via-in_default w ↦
          (let d = w.in_default in
          others_leave (around_of view) (laid_tree view.laid.now) view.task view.tests_pointer view.answer
          c.args.store.now c.args.cell c.args.entry.now view.operation d.not-Lock d.not-Unlock d.not-Yield d.not-Probe)
    ] in
    c.in_ok-copied-in_default.ensures ∙ sym same
