use Rattle.std.proofs.Common.{◌∙◌, ap, map}
use Rattle.source_marks.specs.reading.Seen.{origin_seen}
use Rattle.report_views.specs.Spots.{finding_of}
use Rattle.report_views.proofs.ViewFound.{if_ok_by, misplaced_cause}
use Rattle.report_pages.specs.Pages.{IsPage, IsShown}
use Rattle.report_pages.specs.reading.Seen.{texts_seen}
use Rattle.report_pages.proofs.Found.{page_of}
use Rattle.report_pages.proofs.pages.page.Goals as goal

pub returns-clause-ok : goal.returns-clause-ok
returns-clause-ok c =
    if_ok_by
    (λ page. IsShown (texts_seen c.args.texts) (map origin_seen c.deref-2.result.now) c.deref-3.result.now page.items)
    (λ page. IsPage c.args.report.now (texts_seen c.args.texts) page.items)
    c.shown.result c.shown.ensures.ok
    (λ page. page_of c.args.report.now (texts_seen c.args.texts) c.in_ok-read.read.alarms.items
    c.deref-3.result.now (map origin_seen c.in_ok-origins.origins.items) (map origin_seen c.deref-2.result.now)
    c.in_ok-read.ensures.ok c.in_ok-origins.ensures.ok
    (c.deref-3.ensures.value ∙ c.in_ok-findings.ensures.ok ∙ ap (map finding_of) c.deref.ensures.value)
    (ap (map origin_seen) c.deref-2.ensures.value) page.items)

pub returns-clause-refused : goal.returns-clause-refused
returns-clause-refused c =
    λ cause e. misplaced_cause c.args.texts.name.now c.args.report.now c.args.texts.text.now
    c.in_ok-read.read.alarms.items
    c.deref-3.result.now (map origin_seen c.in_ok-origins.origins.items) (map origin_seen c.deref-2.result.now)
    c.in_ok-read.ensures.ok c.in_ok-origins.ensures.ok
    (c.deref-3.ensures.value ∙ c.in_ok-findings.ensures.ok ∙ ap (map finding_of) c.deref.ensures.value)
    (ap (map origin_seen) c.deref-2.ensures.value) cause (c.shown.ensures.refused cause e)
