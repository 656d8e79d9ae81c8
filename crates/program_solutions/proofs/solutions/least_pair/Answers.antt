use Rattle.std.proofs.Common.{subst, sym}
use Rattle.std.specs.Arc.{arc_value}
use Rattle.thread_pass.specs.program_systems.ReadPrograms.{program_of}
use Rattle.program_reports.specs.post_recheck.Pairs.{pair_of}
use Rattle.program_solutions.specs.LeastReports.{IsLeastPair}
use Rattle.program_solutions.proofs.Completing.{least_pair_is}
use Rattle.program_solutions.proofs.Reporting.{is_read}
use Rattle.program_solutions.proofs.solutions.least_pair.Goals as goal

pub returns : goal.returns
returns c =
    let p = program_of c.args.analysis.now in
    let pair = pair_of c.args.tables.items (arc_value c.args.store) in
    let is = is_read c.args.analysis.now c.parts-parts.result.0.now c.parts-parts.result.1.now c.parts-parts.ensures.analysable
    c.parts-parts.ensures.facts c.parts-parts.ensures.program in
    subst (IsLeastPair p) (sym c.new.ensures) (least_pair_is p is pair c.requires)
