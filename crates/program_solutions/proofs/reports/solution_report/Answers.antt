use Rattle.program_reports.specs.post_recheck.Pairs.{lists_of}
use Rattle.program_solutions.proofs.Reporting.{report_least}
use Rattle.program_solutions.proofs.reports.solution_report.Goals as goal

pub returns : goal.returns
returns c =
    report_least c.args.analysis.now c.parts.result.0.now c.parts.result.1.now c.parts.ensures.analysable
    c.parts.ensures.facts c.parts.ensures.program c.args.found.now c.requires
    (lists_of c.tables.result.now) c.tables.ensures c.in_ok-report.report.alarms.items c.in_ok-report.ensures
