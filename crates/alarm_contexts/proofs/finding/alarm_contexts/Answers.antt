use Rattle.std.proofs.lemmas.Result.{IfOk-weaker}
use Rattle.program_reports.specs.post_recheck.program_equations.Solutions.{tables_of}
use Rattle.program_reports.specs.post_recheck.program_systems.ProgramFacts.{program_with}
use Rattle.program_reports.specs.post_recheck.Pairs.{lists_of}
use Rattle.program_reports.proofs.low.program_systems.Bodies.{is_program}
use Rattle.alarm_contexts.proofs.Exact.{contexts_are}
use Rattle.alarm_contexts.proofs.finding.alarm_contexts.Goals as goal

pub merged-requires-clause-found : goal.merged-requires-clause-found
merged-requires-clause-found c = λ x within. (c.in_ok-contexts.ensures x).0 within

pub returns : goal.returns
returns c =
    let p = program_with c.args.program.now c.args.facts.now in
    let tables = tables_of (lists_of c.args.tables.now) in
    let is = is_program c.args.program.now c.args.facts.now c.requires.analysable c.requires.facts in
    IfOk-weaker c.merged.result _ _
    (λ list h. contexts_are p is tables c.args.store.now c.in_ok-contexts.contexts.items c.in_ok-contexts.ensures
    list.items h) c.merged.ensures
