use Rattle.std.proofs.Common.{rules, arith, ◌∙◌, ap, length, map, sym}
use Rattle.std.specs.Prelude.{sum}
use Rattle.std.proofs.lemmas.Grind.{common_steps}
use Rattle.std.proofs.lemmas.List.{length-map}
use Rattle.source_marks.specs.reading.Seen.{origin_seen}
use Rattle.report_reading.specs.reading.Told.{way_seen}
use Rattle.report_logs.specs.Logs.{IsLog, IsLogged}
use Rattle.report_logs.specs.reading.Seen.{answers_seen}
use Rattle.report_logs.proofs.LogFound.{if_ok_by, log_of, misplaced_log, strange_log}
use Rattle.report_logs.proofs.ToldOnce.{as_many_shares}
use Rattle.report_logs.proofs.logs.log.Goals as goal

pub returns-in_err-counts-clause-refused : goal.returns-in_err-counts-clause-refused
returns-in_err-counts-clause-refused c =
    λ cause e. strange_log c.args.frame.name.now (answers_seen c.args.answers) c.args.frame.text.now
    c.in_ok-findings.findings.items c.deref.result.now (map way_seen c.in_ok-ways.ways.items)
    (map way_seen c.deref-2.result.now) c.in_ok-findings.ensures.ok c.in_ok-ways.ensures.ok c.deref.ensures.value
    (ap (map way_seen) c.deref-2.ensures.value) cause (first_of (search rules, grind (arith, common_steps)))

pub logged-requires : goal.logged-requires
logged-requires c =
    record {
      of_counts = ap length (c.deref-6.ensures.value ∙ c.in_ok-counts.ensures.ok.0)
          ∙ as_many_shares c.deref.result.now (map way_seen c.deref-2.result.now)
          ∙ ap length (c.deref.ensures.value ∙ sym c.deref-4.ensures.value);
      of_told = ap sum c.deref-6.ensures.value ∙ c.in_ok-counts.ensures.ok.1
          ∙ ap length (c.deref-2.ensures.value ∙ sym c.deref-5.ensures.value);
    }

pub returns-clause-ok : goal.returns-clause-ok
returns-clause-ok c =
    if_ok_by
    (λ log. IsLogged c.args.frame.documents.now c.args.frame.folder.now c.args.frame.name.now c.args.frame.text.now
    c.args.frame.lines.now (map origin_seen c.deref-3.result.now) c.deref-4.result.now
    (map way_seen c.deref-5.result.now) c.deref-6.result.now log.items)
    (λ log. IsLog c.args.frame.documents.now c.args.frame.folder.now c.args.frame.name.now (answers_seen c.args.answers)
    c.args.frame.text.now c.args.frame.lines.now log.items)
    c.logged.result c.logged.ensures.ok
    (λ log. log_of c.args.frame.documents.now c.args.frame.folder.now c.args.frame.name.now
    (answers_seen c.args.answers) c.args.frame.text.now c.args.frame.lines.now
    c.in_ok-findings.findings.items c.deref.result.now c.deref-4.result.now (map way_seen c.in_ok-ways.ways.items)
    (map way_seen c.deref-2.result.now) (map way_seen c.deref-5.result.now) c.in_ok-counts.counts.items
    c.deref-6.result.now (map origin_seen c.in_ok-origins.origins.items) (map origin_seen c.deref-3.result.now)
    c.in_ok-findings.ensures.ok c.in_ok-ways.ensures.ok c.in_ok-origins.ensures.ok c.deref.ensures.value
    (ap (map way_seen) c.deref-2.ensures.value) c.deref-4.ensures.value (ap (map way_seen) c.deref-5.ensures.value)
    c.in_ok-counts.ensures.ok.0 (c.in_ok-counts.ensures.ok.1 ∙ sym (length-map c.deref-2.result.now way_seen))
    c.deref-6.ensures.value (ap (map origin_seen) c.deref-3.ensures.value) log.items)

pub returns-clause-refused : goal.returns-clause-refused
returns-clause-refused c =
    λ cause e. misplaced_log c.args.frame.name.now (answers_seen c.args.answers) c.args.frame.text.now
    c.in_ok-findings.findings.items c.deref-4.result.now (map way_seen c.in_ok-ways.ways.items)
    (map way_seen c.deref-5.result.now) (map origin_seen c.in_ok-origins.origins.items)
    (map origin_seen c.deref-3.result.now) c.in_ok-findings.ensures.ok c.in_ok-ways.ensures.ok
    c.in_ok-origins.ensures.ok c.deref-4.ensures.value (ap (map way_seen) c.deref-5.ensures.value)
    (ap (map origin_seen) c.deref-3.ensures.value) cause (c.logged.ensures.refused cause e)
