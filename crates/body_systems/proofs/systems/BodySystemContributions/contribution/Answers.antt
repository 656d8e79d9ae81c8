use Rattle.std.proofs.Common.{◌≡◌, ◌∙◌, sym, ap, subst}
use Rattle.std.specs.Prelude.{get_or, map}
use Rattle.transfer_mem.specs.edge_actions.Edges.{action_at, around_of}
use Rattle.transfer_mem.specs.edge_effects.Effects.{IsAfter}
use Rattle.transfer_mem.specs.Applicable.{IsApplicable}
use Rattle.transfer_mem.specs.edge_actions.transfer_rows.StateForms.{State}
use Rattle.table_covers.specs.Systems.{from_of}
use Rattle.task_equations.specs.Equations.{link_of}
use Rattle.program_equations.specs.Systems.{FitsBody}
use Rattle.body_systems.specs.Systems.{SystemOf, body_of, contributed_by, IsSystemOf}
use Rattle.body_systems.proofs.Copies.{number_applicable, number_added}
use Rattle.body_systems.proofs.systems.BodySystemContributions.contribution.Goals as goal

pub apply-requires : goal.apply-requires
apply-requires c =
    let v = c.args.self.now.body.now in
    let copy = c.index-copy.result.now in
    let keeps = subst IsSystemOf c.body.view_is c.body.invariant in
    let read = subst (λ (w : SystemOf). copy ≡ get_or w.configured.copies.items c.args.edge copy) c.body.view_is
    c.index-copy.ensures in
    let fits = subst (λ (s : State). FitsBody (body_of v) (from_of (map link_of v.configured.copies.items) c.args.edge) s)
    (sym c.state.ensures) c.requires.fits in
    subst (λ (w : SystemOf). IsApplicable c.view.result c.state.result.now w.store) (sym c.body.view_is)
    (number_applicable v keeps c.args.edge c.requires.edge copy read c.view.result c.view.ensures c.state.result.now
    fits)

pub returns : goal.returns
returns c =
    let v = c.args.self.now.body.now in
    let copy = c.index-copy.result.now in
    let keeps = subst IsSystemOf c.body.view_is c.body.invariant in
    let read = subst (λ (w : SystemOf). copy ≡ get_or w.configured.copies.items c.args.edge copy) c.body.view_is
    c.index-copy.ensures in
    let gives = subst (λ (w : SystemOf). IsAfter (around_of c.view.result) (action_at c.view.result) c.state.result.now
    w.store c.in_ok-after.after) c.body.view_is c.in_ok-after.ensures in
    number_added v keeps c.args.edge c.requires.edge copy read c.view.result c.view.ensures c.state.result.now
    c.in_ok-after.after gives
    ∙ ap (λ (s : State). contributed_by v c.args.edge s) c.state.ensures
