use Rattle.post_recheck.specs.program_systems.ProgramFacts.{program_with}
use Rattle.post_recheck.specs.Pairs.{pair_of}
use Rattle.post_recheck.proofs.low.program_systems.Bodies.{is_program_of}
use Rattle.certificate_check.specs.reading.Parts.{read, unread}
use Rattle.certificate_check.proofs.Told.{if_ok_by}
use Rattle.certificate_check.proofs.checks.verdict_on_told.Goals as goal

pub returns-in-Some : goal.returns-in-Some
returns-in-Some c =
    let program = c.args.program.now in
    let facts = c.in_ok-facts.facts in
    let pair = c.in-Some.pair in
    let found = rw c.in-Some.is at c.in_ok-pair.ensures in
    if_ok_by c.verdict_on_pair.result c.verdict_on_pair.ensures
    (λ v h. record {
      bodies = program_with program facts;
      small = c.numbers_are_small.ensures;
      of = is_program_of program facts c.requires.analysable c.in_ok-facts.ensures;
      is = read (pair_of pair.tables.items pair.store) v found.0 found.1 h;
    })

pub returns : goal.returns
returns c =
    let program = c.args.program.now in
    let facts = c.in_ok-facts.facts in
    record {
      bodies = program_with program facts;
      small = c.numbers_are_small.ensures;
      of = is_program_of program facts c.requires.analysable c.in_ok-facts.ensures;
      is = unread (rw c.in-None.is at c.in_ok-pair.ensures);
    }
