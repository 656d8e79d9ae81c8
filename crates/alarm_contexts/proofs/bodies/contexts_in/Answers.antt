use Rattle.std.proofs.Common.{◌≡◌, ◌↔◌, length, subst, arith}
use Rattle.std.specs.Prelude.{Contains}
use Rattle.std.proofs.lemmas.List.{length-map}
use Rattle.program_reports.specs.post_recheck.program_equations.Solutions.{tables_of}
use Rattle.program_reports.specs.post_recheck.program_systems.ProgramFacts.{program_with}
use Rattle.program_reports.specs.post_recheck.Pairs.{lists_of}
use Rattle.program_reports.proofs.low.post_recheck.Given.{bodies_small}
use Rattle.access_races.proofs.Joins.{grown}
use Rattle.program_reports.proofs.Steps.{bodies_more}
use Rattle.alarm_contexts.specs.reading.Found.{IsContextIn, IsContextUpTo}
use Rattle.alarm_contexts.proofs.bodies.contexts_in.Goals as goal

pub overflow_cast-number : goal.overflow_cast-number
overflow_cast-number c =
    let small = bodies_small c.args.program.now c.args.facts.now c.requires.analysable c.requires.facts in
    let count = c.requires.fits.count in
    let same = length-map c.args.tables.now (λ v. v.items) in
    omega (arith, small, count, same)

pub loop-number-preserved : goal.loop-number-preserved
loop-number-preserved c = λ x.
    let p = program_with c.args.program.now c.args.facts.now in
    grown (c.in_ok-add_body.ensures x) (c.loop-number.invariant x)
    (bodies_more (λ t. IsContextIn p c.args.store.now (tables_of (lists_of c.args.tables.now)) t x) c.loop-number.number)

pub returns : goal.returns
returns c = λ x.
    let p = program_with c.args.program.now c.args.facts.now in
    let count = c.requires.fits.count in
    let same = length-map c.args.tables.now (λ v. v.items) in
    let end : c.loop-number.number ≡ length p.bodies = omega (arith, count, same) in
    subst (λ n. Contains c.loop-number.contexts.items x
    ↔ IsContextUpTo p c.args.store.now (tables_of (lists_of c.args.tables.now)) n x) end (c.loop-number.invariant x)
