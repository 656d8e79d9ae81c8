use Rattle.std.proofs.Common.{◌≡◌, ◌+◌, length, sym, subst, arith}
use Rattle.program_systems.specs.ProgramFacts.{program_with}
use Rattle.program_systems.proofs.Bodies.{body_count}
use Rattle.thread_pass.proofs.SlotsInOrder.{AreFirst, one_more, all_slots}
use Rattle.thread_pass.proofs.program_slots.program_slots.Goals as goal

pub slots_of_body-requires-clause-number : goal.slots_of_body-requires-clause-number
slots_of_body-requires-clause-number c =
    let program = c.args.program.now in
    let count = body_count program c.args.facts.now c.requires.analysable c.requires.facts in
    omega (
      arith,
      c.loop-number-test.true,
      c.len-number-end.ensures,
      program.configured.ok.0,
      c.requires.analysable.count,
      count,
    )

pub loop-number-preserved : goal.loop-number-preserved
loop-number-preserved c =
    let p = program_with c.args.program.now c.args.facts.now in
    let n = c.loop-number.number in
    subst (AreFirst p (n + 1)) (sym c.in_ok-push.ensures.items)
    (one_more p n c.loop-number.slots.items c.in_ok-of_body.of_body c.loop-number.invariant c.in_ok-of_body.ensures)

pub returns : goal.returns
returns c =
    let program = c.args.program.now in
    let p = program_with program c.args.facts.now in
    let count = body_count program c.args.facts.now c.requires.analysable c.requires.facts in
    let ended : c.loop-number.number ≡ length p.bodies = omega (
      arith,
      c.loop-number-test.false,
      c.loop-number.auto.number-end,
      c.len-number-end.ensures,
      program.configured.ok.0,
      c.requires.analysable.count,
      count,
    ) in
    all_slots p c.loop-number.slots.items (subst (λ n. AreFirst p n c.loop-number.slots.items) ended c.loop-number.invariant)
