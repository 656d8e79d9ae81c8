use Rattle.std.proofs.Common.{◌≡◌, length, subst, arith}
use Rattle.tm_laid.specs.Layouts.{laid_tree}
use Rattle.post_recheck.specs.program_equations.Solutions.{tables_of}
use Rattle.post_recheck.specs.program_systems.ProgramFacts.{program_with}
use Rattle.post_recheck.proofs.low.program_systems.Bodies.{body_count}
use Rattle.std.proofs.lemmas.List.{length-map}
use Rattle.post_recheck.specs.Pairs.{lists_of}
use Rattle.text_choices.specs.Choices.{Adds}
use Rattle.open_choices.specs.Choices.{IsOfRuns}
use Rattle.open_choices.specs.reading.Found.{IsOfNumber}
use Rattle.open_choices.specs.reading.Noted.{IsOfNoted}
use Rattle.open_choices.proofs.ChoiceLists.{added_as, added_nothing, added_number, number_none}
use Rattle.open_choices.proofs.Runs.{of_runs}
use Rattle.open_choices.proofs.finding.add_bodies.Goals as goal

pub loop-number-init : goal.loop-number-init
loop-number-init c =
    let Opens = IsOfNoted (laid_tree c.args.program.now.laid) (program_with c.args.program.now c.args.facts.now)
    (tables_of (lists_of c.args.tables.now)) c.args.store.now c.args.origins.now in
    added_nothing (IsOfNumber Opens 0) (IsOfNumber Opens 0) c.args.others.items (number_none Opens)

pub loop-number-preserved : goal.loop-number-preserved
loop-number-preserved c =
    let Opens = IsOfNoted (laid_tree c.args.program.now.laid) (program_with c.args.program.now c.args.facts.now)
    (tables_of (lists_of c.args.tables.now)) c.args.store.now c.args.origins.now in
    added_number Opens c.args.others.items c.loop-number.choices.items c.add_noted.new.choices.items
    c.loop-number.number c.loop-number.invariant c.in_ok-add_noted.ensures

pub overflow_cast-number-end : goal.overflow_cast-number-end
overflow_cast-number-end c =
    let count = body_count c.args.program.now c.args.facts.now c.requires.analysable c.requires.facts in
    let tables = length-map c.args.tables.now (λ v. v.items) in
    omega (arith, count, tables, c.requires.fits.count, c.requires.analysable.small)

pub returns : goal.returns
returns c =
    let laid = laid_tree c.args.program.now.laid in
    let p = program_with c.args.program.now c.args.facts.now in
    let tables = tables_of (lists_of c.args.tables.now) in
    let store = c.args.store.now in
    let origins = c.args.origins.now in
    let Opens = IsOfNoted laid p tables store origins in
    let counted = length-map c.args.tables.now (λ v. v.items) in
    let count = body_count c.args.program.now c.args.facts.now c.requires.analysable c.requires.facts in
    let end : c.loop-number.number ≡ length p.bodies =
    omega (arith, count, counted, c.requires.fits.count, c.requires.analysable.small) in
    added_as (IsOfNumber Opens (length p.bodies)) (IsOfRuns laid p tables store origins) c.args.others.items
    c.loop-number.choices.items (of_runs laid p tables store origins)
    (subst (λ n. Adds c.args.others.items c.loop-number.choices.items (IsOfNumber Opens n)) end
    c.loop-number.invariant)
