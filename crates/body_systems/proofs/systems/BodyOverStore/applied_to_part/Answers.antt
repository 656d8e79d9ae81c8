use Rattle.std.proofs.Common.{◌≡◌, ◌∙◌, sym, subst}
use Rattle.std.specs.Prelude.{get_or}
use Rattle.std.proofs.lemmas.List.{get_or_default}
use Rattle.std.proofs.lemmas.Result.{IfOk-weaker}
use Rattle.transfer_mem.specs.edge_actions.Edges.{action_at, around_of}
use Rattle.transfer_mem.specs.edge_effects.Effects.{IsAfter}
use Rattle.transfer_mem.specs.Applicable.{IsApplicable}
use Rattle.mutex_configs.specs.declared.nodes.EdgeCopy.{EdgeCopy}
use Rattle.task_equations.specs.Bodies.{no_copy, copy_at}
use Rattle.task_equations.specs.Equations.{action_along, around_along}
use Rattle.task_equations.specs.Premises.{IsCopyOf}
use Rattle.body_systems.specs.Systems.{SystemOf, body_of, IsSystemOf, FitsTemps}
use Rattle.body_systems.proofs.Copies.{copy_applicable, shown_after}
use Rattle.body_systems.proofs.systems.BodyOverStore.applied_to_part.Goals as goal

pub view-requires : goal.view-requires
view-requires c =
    let v = c.args.self.now in
    let copy = c.index.result.now in
    let keeps = subst IsSystemOf c.self.view_is c.self.invariant in
    let read = subst (λ (w : SystemOf). copy ≡ get_or w.configured.copies.items c.args.copy copy) c.self.view_is
    c.index.ensures in
    let same = read ∙ get_or_default v.configured.copies.items c.args.copy copy no_copy c.requires.copy in
    subst (IsCopyOf (body_of v)) (sym same) (keeps.body.copies c.args.copy c.requires.copy)

pub apply-requires : goal.apply-requires
apply-requires c =
    let v = c.args.self.now in
    let copy = c.index.result.now in
    let keeps = subst IsSystemOf c.self.view_is c.self.invariant in
    let read = subst (λ (w : SystemOf). copy ≡ get_or w.configured.copies.items c.args.copy copy) c.self.view_is
    c.index.ensures in
    let same = read ∙ get_or_default v.configured.copies.items c.args.copy copy no_copy c.requires.copy in
    subst (λ (w : SystemOf). IsApplicable c.view.result c.args.state.now w.store) (sym c.self.view_is)
    (copy_applicable v copy c.view.result c.view.ensures keeps
    (subst (IsCopyOf (body_of v)) (sym same) (keeps.body.copies c.args.copy c.requires.copy)) c.args.state.now
    (subst (λ (d : EdgeCopy). FitsTemps (body_of v) d.from c.args.state.now) (sym same) c.requires.fits))

pub returns : goal.returns
returns c =
    let v = c.args.self.now in
    let copy = c.index.result.now in
    let read = subst (λ (w : SystemOf). copy ≡ get_or w.configured.copies.items c.args.copy copy) c.self.view_is
    c.index.ensures in
    let same = read ∙ get_or_default v.configured.copies.items c.args.copy copy no_copy c.requires.copy in
    IfOk-weaker c.apply.result _ _ (λ after gives.
    subst (λ (d : EdgeCopy). IsAfter (around_along (body_of v) d) (action_along (body_of v) d) c.args.state.now v.store
    after) same
    (shown_after v copy c.view.result c.view.ensures c.args.state.now after
    (subst (λ (w : SystemOf). IsAfter (around_of c.view.result) (action_at c.view.result) c.args.state.now w.store after)
    c.self.view_is gives))) c.apply.ensures
