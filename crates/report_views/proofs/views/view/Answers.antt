use Rattle.std.proofs.Common.{◌∙◌, ap, map}
use Rattle.source_marks.specs.reading.Seen.{origin_seen}
use Rattle.report_views.specs.Spots.{finding_of}
use Rattle.report_views.specs.Views.{IsShown, IsView}
use Rattle.report_views.proofs.ViewFound.{if_ok_by, misplaced_cause, view_of}
use Rattle.report_views.proofs.views.view.Goals as goal

pub returns-clause-ok : goal.returns-clause-ok
returns-clause-ok c =
    if_ok_by
    (λ reply. IsShown c.args.form (map origin_seen c.deref-2.result.now) c.deref-3.result.now reply.has_alarm reply.text.items)
    (λ reply. IsView c.args.form c.args.name.now c.args.report.now c.args.text.now reply.has_alarm reply.text.items)
    c.shown.result c.shown.ensures.ok
    (λ reply. view_of c.args.form c.args.name.now c.args.report.now c.args.text.now c.in_ok-read.read.alarms.items
    c.deref-3.result.now (map origin_seen c.in_ok-origins.origins.items) (map origin_seen c.deref-2.result.now)
    c.in_ok-read.ensures.ok c.in_ok-origins.ensures.ok
    (c.deref-3.ensures.value ∙ c.in_ok-findings.ensures.ok ∙ ap (map finding_of) c.deref.ensures.value)
    (ap (map origin_seen) c.deref-2.ensures.value) reply.has_alarm reply.text.items)

pub returns-clause-refused : goal.returns-clause-refused
returns-clause-refused c =
    λ cause e. misplaced_cause c.args.name.now c.args.report.now c.args.text.now c.in_ok-read.read.alarms.items
    c.deref-3.result.now (map origin_seen c.in_ok-origins.origins.items) (map origin_seen c.deref-2.result.now)
    c.in_ok-read.ensures.ok c.in_ok-origins.ensures.ok
    (c.deref-3.ensures.value ∙ c.in_ok-findings.ensures.ok ∙ ap (map finding_of) c.deref.ensures.value)
    (ap (map origin_seen) c.deref-2.ensures.value) cause (c.shown.ensures.refused cause e)
