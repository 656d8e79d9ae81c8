use Rattle.std.proofs.Common.{◌↔◌, length, List, sym, subst}
use Rattle.std.specs.Prelude.{Contains}
use Rattle.std.proofs.lemmas.Result.{IfOk-weaker}
use Rattle.post_recheck.specs.program_equations.Solutions.{tables_of}
use Rattle.post_recheck.specs.program_systems.ProgramFacts.{program_with}
use Rattle.post_recheck.proofs.low.program_systems.Bodies.{is_program}
use Rattle.post_recheck.specs.Pairs.{lists_of}
use Rattle.access_races.specs.declared.accesses.Access.{Access}
use Rattle.program_reports.specs.reading.Bodies.{IsAccessUpTo}
use Rattle.program_reports.proofs.Exact.{report_is}
use Rattle.program_reports.proofs.judging.judge.Goals as goal

pub returns : goal.returns
returns c =
    let p = program_with c.args.program.now c.args.facts.now in
    let tables = tables_of (lists_of c.args.tables.now) in
    let are = subst (λ (xs : List Access). (x : Access) → Contains xs x ↔ IsAccessUpTo p tables (length p.bodies) x)
    (sym c.deref.ensures.value) c.in_ok-alarms.ensures.accesses in
    IfOk-weaker c.report_of.result _ _ (λ report h.
    report_is p (is_program c.args.program.now c.args.facts.now c.requires.analysable c.requires.facts) tables
    c.deref.result.now are c.in_ok-alarms.field-0.alarms.items c.in_ok-alarms.ensures.alarms report.alarms.items h)
    c.report_of.ensures
