use Rattle.std.proofs.Common.{◌≡◌, ◌↔◌, length, subst, arith}
use Rattle.std.specs.Prelude.{Contains}
use Rattle.program_reports.specs.post_recheck.program_equations.Solutions.{tables_of}
use Rattle.program_reports.specs.post_recheck.program_systems.ProgramFacts.{program_with}
use Rattle.program_reports.specs.post_recheck.Pairs.{lists_of}
use Rattle.access_races.proofs.Joins.{grown}
use Rattle.program_reports.proofs.Steps.{bodies_more}
use Rattle.access_groups.specs.reading.Sites.{IsSiteOf, IsSiteUpTo}
use Rattle.access_groups.proofs.tasks.sites_in.Goals as goal

pub loop-number-preserved : goal.loop-number-preserved
loop-number-preserved c = λ x.
    let p = program_with c.args.program.now c.args.facts.now in
    grown (c.in_ok-add_task.ensures x) (c.loop-number.invariant x)
    (bodies_more (λ t. IsSiteOf p (tables_of (lists_of c.args.tables.now)) t x) c.loop-number.number)

pub returns : goal.returns
returns c = λ x.
    let end : c.loop-number.number ≡ length c.args.program.now.laid.file.tasks.items =
    omega (arith, c.len-number-end.ensures, c.args.program.now.laid.file.tasks.ok.0) in
    subst (λ n. Contains c.loop-number.sites.items x
    ↔ IsSiteUpTo (program_with c.args.program.now c.args.facts.now) (tables_of (lists_of c.args.tables.now)) n x) end
    (c.loop-number.invariant x)
