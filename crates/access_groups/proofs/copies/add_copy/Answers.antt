use Rattle.std.proofs.Common.{sym, ap, ◌∙◌}
use Rattle.std.proofs.lemmas.Result.{on_ok_weaker}
use Rattle.program_reports.specs.post_recheck.body_systems.Systems.{body_of}
use Rattle.program_reports.proofs.Tables.{relabelled}
use Rattle.access_groups.specs.reading.Sites.{access_place}
use Rattle.access_groups.proofs.Targets.{nothing_given, edge_read, site_given}
use Rattle.access_groups.proofs.copies.add_copy.Goals as goal

pub returns-in_default : goal.returns-in_default
returns-in_default c = λ x.
    nothing_given (body_of c.args.parts.body.now) c.args.copy c.args.state.now x
    (ap access_place (sym c.operation_of.ensures) ∙ sym c.access_place.ensures ∙ c.in_default.is)

pub returns : goal.returns
returns c =
    let b = body_of c.args.parts.body.now in
    let placed = ap access_place (sym c.operation_of.ensures) ∙ sym c.access_place.ensures ∙ c.in-Some.is in
    on_ok_weaker c.add_targets.result
    (λ h x. relabelled (h x) (site_given b c.args.copy c.args.state.now c.args.parts.body.now.store
    c.in_ok-after.after c.in_ok-after.ensures c.in-Some.place placed c.way_of.result c.way_of.ensures _
    (edge_read b c.args.parts c.requires.parts c.args.copy) c.deref.result.now c.deref.ensures x)) c.add_targets.ensures
