use Rattle.std.proofs.Common.{◌≡◌, ◌∙◌, sym, subst}
use Rattle.std.specs.Prelude.{get_or}
use Rattle.std.proofs.lemmas.List.{get_or_default}
use Rattle.transfer_mem.specs.edge_actions.Edges.{action_at, around_of}
use Rattle.mutex_configs.specs.declared.nodes.EdgeCopy.{EdgeCopy}
use Rattle.task_equations.specs.Bodies.{no_copy}
use Rattle.task_equations.specs.Equations.{action_along, around_along}
use Rattle.task_equations.specs.Premises.{IsCopyOf}
use Rattle.body_systems.specs.Systems.{SystemOf, body_of, IsSystemOf}
use Rattle.body_systems.specs.Views.{IsViewOf}
use Rattle.body_systems.proofs.Copies.{shown_action, shown_around}
use Rattle.body_systems.proofs.systems.BodyOverStore.view_of.Goals as goal

pub view-requires : goal.view-requires
view-requires c =
    let v = c.args.self.now in
    let copy = c.index.result.now in
    let keeps = subst IsSystemOf c.self.view_is c.self.invariant in
    let read = subst (λ (w : SystemOf). copy ≡ get_or w.configured.copies.items c.args.copy copy) c.self.view_is
    c.index.ensures in
    let same = read ∙ get_or_default v.configured.copies.items c.args.copy copy no_copy c.requires in
    subst (IsCopyOf (body_of v)) (sym same) (keeps.body.copies c.args.copy c.requires)

pub returns-clause-view : goal.returns-clause-view
returns-clause-view c =
    let v = c.args.self.now in
    let copy = c.index.result.now in
    let read = subst (λ (w : SystemOf). copy ≡ get_or w.configured.copies.items c.args.copy copy) c.self.view_is
    c.index.ensures in
    let same = read ∙ get_or_default v.configured.copies.items c.args.copy copy no_copy c.requires in
    subst (λ (d : EdgeCopy). IsViewOf v d c.view.result) same c.view.ensures

pub returns-clause-around : goal.returns-clause-around
returns-clause-around c =
    let v = c.args.self.now in
    let copy = c.index.result.now in
    let read = subst (λ (w : SystemOf). copy ≡ get_or w.configured.copies.items c.args.copy copy) c.self.view_is
    c.index.ensures in
    let same = read ∙ get_or_default v.configured.copies.items c.args.copy copy no_copy c.requires in
    subst (λ (d : EdgeCopy). around_of c.view.result ≡ around_along (body_of v) d) same
    (shown_around v copy c.view.result c.view.ensures)

pub returns-clause-action : goal.returns-clause-action
returns-clause-action c =
    let v = c.args.self.now in
    let copy = c.index.result.now in
    let read = subst (λ (w : SystemOf). copy ≡ get_or w.configured.copies.items c.args.copy copy) c.self.view_is
    c.index.ensures in
    let same = read ∙ get_or_default v.configured.copies.items c.args.copy copy no_copy c.requires in
    subst (λ (d : EdgeCopy). action_at c.view.result ≡ action_along (body_of v) d) same
    (shown_action v copy c.view.result c.view.ensures)
