use Rattle.std.proofs.Common.{◌≤◌, length, arith}
use Rattle.std.proofs.lemmas.Result.{on_ok_weaker}
use Rattle.tm_laid.specs.Layouts.{laid_tree}
use Rattle.post_recheck.specs.program_equations.Solutions.{tables_of}
use Rattle.post_recheck.specs.program_systems.ProgramFacts.{program_with}
use Rattle.post_recheck.specs.Pairs.{lists_of}
use Rattle.operand_orders.specs.Reached.{solved_body}
use Rattle.open_choices.specs.Choices.{IsOfBody}
use Rattle.open_choices.specs.reading.Noted.{IsOfNoted}
use Rattle.open_choices.proofs.ChoiceLists.{added_as, added_nothing}
use Rattle.open_choices.proofs.Runs.{of_noted, none_noted, read_there, read_none}
use Rattle.open_choices.proofs.finding.add_noted.Goals as goal

pub returns-then-number-origins : goal.returns-then-number-origins
returns-then-number-origins c =
    let origins = c.args.origins.now in
    let past : length origins ≤ c.args.number = omega arith in
    let Opens = IsOfNoted (laid_tree c.args.program.now.laid) (program_with c.args.program.now c.args.facts.now)
    (tables_of (lists_of c.args.tables.now)) c.args.store.now origins c.args.number in
    added_nothing Opens Opens c.args.choices.now.items (none_noted (laid_tree c.args.program.now.laid)
    (program_with c.args.program.now c.args.facts.now) (tables_of (lists_of c.args.tables.now)) c.args.store.now
    origins c.args.number (read_none origins c.args.number past))

pub returns : goal.returns
returns c =
    let laid = laid_tree c.args.program.now.laid in
    let p = program_with c.args.program.now c.args.facts.now in
    let tables = tables_of (lists_of c.args.tables.now) in
    let store = c.args.store.now in
    let origins = c.args.origins.now in
    let number = c.args.number in
    let noted = c.index-origins-number.result in
    let there = read_there origins number noted (omega arith) c.index-origins-number.is in
    on_ok_weaker c.add_body.result (λ h. added_as (IsOfBody (solved_body laid p tables store number noted))
    (IsOfNoted laid p tables store origins number) c.args.choices.now.items c.add_body.new.choices.items
    (of_noted laid p tables store origins number noted there) h) c.add_body.ensures
