use Rattle.std.proofs.Common.{◌≡◌, ◌∙◌, sym, ap, subst, Some}
use Rattle.std.specs.Prelude.{get_or, map, not}
use Rattle.transfer_mem.specs.edge_actions.Edges.{action_at, around_of}
use Rattle.transfer_mem.specs.edge_effects.Effects.{IsAfter}
use Rattle.transfer_mem.specs.Applicable.{IsApplicable}
use Rattle.transfer_mem.specs.edge_actions.transfer_rows.StateForms.{State}
use Rattle.table_covers.specs.Systems.{from_of}
use Rattle.task_equations.specs.Bodies.{copy_at}
use Rattle.task_equations.specs.Equations.{link_of, after_along}
use Rattle.program_equations.specs.Systems.{FitsBody}
use Rattle.body_systems.specs.Systems.{SystemOf, body_of, IsSystemOf}
use Rattle.body_systems.proofs.Copies.{number_applicable, number_state}
use Rattle.body_systems.proofs.systems.BodySystemEquations.apply.Goals as goal

pub apply-requires : goal.apply-requires
apply-requires c =
    let v = c.args.self.now.body.now in
    let copy = c.index.result.now in
    let keeps = subst IsSystemOf c.body.view_is c.body.invariant in
    let read = subst (λ (w : SystemOf). copy ≡ get_or w.configured.copies.items c.args.edge copy) c.body.view_is
    c.index.ensures in
    let fits = subst (λ (s : State). FitsBody (body_of v) (from_of (map link_of v.configured.copies.items) c.args.edge) s)
    (sym c.state.ensures) c.requires.fits in
    subst (λ (w : SystemOf). IsApplicable c.view.result c.state.result.now w.store) (sym c.body.view_is)
    (number_applicable v keeps c.args.edge c.requires.edge copy read c.view.result c.view.ensures c.state.result.now
    fits)

pub returns-in-Some : goal.returns-in-Some
returns-in-Some c =
    let v = c.args.self.now.body.now in
    let copy = c.index.result.now in
    let keeps = subst IsSystemOf c.body.view_is c.body.invariant in
    let read = subst (λ (w : SystemOf). copy ≡ get_or w.configured.copies.items c.args.edge copy) c.body.view_is
    c.index.ensures in
    let gives = subst (λ (w : SystemOf). IsAfter (around_of c.view.result) (action_at c.view.result) c.state.result.now
    w.store c.in_ok-brought.field-0) c.body.view_is c.in_ok-brought.ensures in
    let on = ap not c.is_none.ensures ∙ ap (λ b. not (not b)) c.if-is_none.false in
    ap Some c.new.ensures
    ∙ (sym c.in-Some.is
    ∙ (number_state v keeps c.args.edge c.requires.edge copy read c.view.result c.view.ensures c.state.result.now
    c.in_ok-brought.field-0 gives on
    ∙ ap (λ (s : State). after_along (body_of v) v.store (copy_at (body_of v) c.args.edge) s) c.state.ensures))

pub returns : goal.returns
returns c =
    let v = c.args.self.now.body.now in
    let copy = c.index.result.now in
    let keeps = subst IsSystemOf c.body.view_is c.body.invariant in
    let read = subst (λ (w : SystemOf). copy ≡ get_or w.configured.copies.items c.args.edge copy) c.body.view_is
    c.index.ensures in
    let gives = subst (λ (w : SystemOf). IsAfter (around_of c.view.result) (action_at c.view.result) c.state.result.now
    w.store c.in_ok-brought.field-0) c.body.view_is c.in_ok-brought.ensures in
    let on = ap not c.is_none.ensures ∙ ap (λ b. not (not b)) c.if-is_none.false in
    sym c.in-None.is
    ∙ (number_state v keeps c.args.edge c.requires.edge copy read c.view.result c.view.ensures c.state.result.now
    c.in_ok-brought.field-0 gives on
    ∙ ap (λ (s : State). after_along (body_of v) v.store (copy_at (body_of v) c.args.edge) s) c.state.ensures)
