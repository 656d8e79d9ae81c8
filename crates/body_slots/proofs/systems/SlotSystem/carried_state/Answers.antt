use Rattle.std.proofs.Common.{◌≡◌, ◌∙◌, ap, subst}
use Rattle.std.proofs.lemmas.Result.{IfOk-weaker}
use Rattle.sparse_rows.specs.Carried.{carried_by}
use Rattle.edge_actions.specs.Edges.{around_of, action_at}
use Rattle.task_equations.specs.Bodies.{copy_at}
use Rattle.task_equations.specs.Equations.{around_along, action_along}
use Rattle.body_systems.specs.Systems.{SystemOf, body_of}
use Rattle.body_slots.specs.Slots.{SlotSystemOf}
use Rattle.body_slots.proofs.systems.SlotSystem.carried_state.Goals as goal

pub returns : goal.returns
returns c =
    let v = c.args.self.now in
    let e = c.args.edge in
    let w-is = ap (λ (u : SlotSystemOf). u.system) c.self.view_is in
    let view = c.view_of-view.result in
    let around = subst (λ (w : SystemOf). (let b = body_of w in around_of view ≡ around_along b (copy_at b e))) w-is
    c.view_of-view.ensures.around in
    let action = subst (λ (w : SystemOf). (let b = body_of w in action_at view ≡ action_along b (copy_at b e))) w-is
    c.view_of-view.ensures.action in
    let store = c.store.ensures.store ∙ ap (λ (w : SystemOf). w.store) w-is in
    IfOk-weaker c.carried_cell.result _ _ (λ made is. is
    ∙ (λ i. carried_by (around i) (action i) (store i) c.args.cell c.args.held.now)) c.carried_cell.ensures
