use Rattle.std.proofs.Common.{◌≡◌, ◌↔◌, length, subst, arith}
use Rattle.std.specs.Prelude.{Contains}
use Rattle.std.proofs.lemmas.List.{length-map}
use Rattle.post_recheck.specs.program_equations.Solutions.{tables_of}
use Rattle.post_recheck.specs.program_systems.ProgramFacts.{program_with}
use Rattle.post_recheck.specs.Pairs.{lists_of}
use Rattle.post_recheck.proofs.Given.{bodies_small}
use Rattle.access_races.proofs.Joins.{grown}
use Rattle.program_reports.specs.reading.Bodies.{IsAlarmOf, IsAccessOf, IsAlarmUpTo, IsAccessUpTo}
use Rattle.program_reports.proofs.Steps.{bodies_more}
use Rattle.program_reports.proofs.judging.found_in.Goals as goal

pub overflow_cast-number : goal.overflow_cast-number
overflow_cast-number c =
    let small = bodies_small c.args.program.now c.args.facts.now c.requires.analysable c.requires.facts in
    let count = c.requires.fits.count in
    let same = length-map c.args.tables.now (λ v. v.items) in
    omega (arith, small, count, same)

pub loop-number-preserved : goal.loop-number-preserved
loop-number-preserved c =
    let p = program_with c.args.program.now c.args.facts.now in
    let tables = tables_of (lists_of c.args.tables.now) in
    record {
      alarms = λ a. grown (c.in_ok-add_body.ensures.alarms a) (c.loop-number.invariant.alarms a)
          (bodies_more (λ t. IsAlarmOf p tables t a) c.loop-number.number);
      accesses = λ x. grown (c.in_ok-add_body.ensures.accesses x) (c.loop-number.invariant.accesses x)
          (bodies_more (λ t. IsAccessOf p tables t x) c.loop-number.number);
    }

pub returns-clause-alarms : goal.returns-clause-alarms
returns-clause-alarms c = λ a.
    let p = program_with c.args.program.now c.args.facts.now in
    let count = c.requires.fits.count in
    let same = length-map c.args.tables.now (λ v. v.items) in
    let end : c.loop-number.number ≡ length p.bodies = omega (arith, count, same) in
    subst (λ n. Contains c.loop-number.found.alarms.items a
    ↔ IsAlarmUpTo p (tables_of (lists_of c.args.tables.now)) n a) end (c.loop-number.invariant.alarms a)

pub returns-clause-accesses : goal.returns-clause-accesses
returns-clause-accesses c = λ x.
    let p = program_with c.args.program.now c.args.facts.now in
    let count = c.requires.fits.count in
    let same = length-map c.args.tables.now (λ v. v.items) in
    let end : c.loop-number.number ≡ length p.bodies = omega (arith, count, same) in
    subst (λ n. Contains c.loop-number.found.accesses.items x
    ↔ IsAccessUpTo p (tables_of (lists_of c.args.tables.now)) n x) end (c.loop-number.invariant.accesses x)
