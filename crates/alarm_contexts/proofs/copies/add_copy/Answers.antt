use Rattle.std.proofs.Common.{sym, ap, ◌∙◌}
use Rattle.std.proofs.lemmas.Result.{on_ok_weaker}
use Rattle.program_reports.specs.post_recheck.body_systems.Systems.{body_of}
use Rattle.program_reports.specs.Reports.{place_of}
use Rattle.program_reports.proofs.Tables.{relabelled}
use Rattle.alarm_contexts.proofs.Adding.{nothing_given, exit_is, context_given}
use Rattle.alarm_contexts.proofs.copies.add_copy.Goals as goal

pub returns-in_default : goal.returns-in_default
returns-in_default c = λ x.
    nothing_given (body_of c.args.parts.body.now) c.args.parts.body.now.store c.args.copy c.args.state.now x
    (ap place_of (sym c.operation_of.ensures) ∙ sym c.place_of.ensures ∙ c.in_default.is)

pub returns : goal.returns
returns c =
    let b = body_of c.args.parts.body.now in
    let store = c.args.parts.body.now.store in
    let placed = ap place_of (sym c.operation_of.ensures) ∙ sym c.place_of.ensures ∙ c.in-Some.is in
    let exit-is = c.exit_of-exit.ensures
    ∙ exit_is b store c.args.copy c.args.state.now c.in_ok-after.after c.in_ok-after.ensures c.is_none.result
    c.is_none.ensures in
    on_ok_weaker c.add_classes.result
    (λ h x. relabelled (h x) (context_given b store c.args.copy c.args.state.now c.in_ok-after.after
    c.in_ok-after.ensures c.in-Some.place placed c.exit_of-exit.result exit-is x)) c.add_classes.ensures
