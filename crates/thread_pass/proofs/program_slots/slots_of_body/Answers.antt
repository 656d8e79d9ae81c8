use Rattle.std.proofs.Common.{subst, IfOk, IfSome}
use Rattle.body_slots.specs.Slots.{AreSlotsOf}
use Rattle.program_equality.specs.task_equations.Bodies.{Body}
use Rattle.thread_pass.proofs.SectionTables.{nothing_fits_program}
use Rattle.thread_pass.proofs.program_slots.slots_of_body.Goals as goal

pub body_over_store-body-requires-clause-store : goal.body_over_store-body-requires-clause-store
body_over_store-body-requires-clause-store c =
    nothing_fits_program c.args.program.now c.args.facts.now c.requires.analysable c.requires.facts c.new-nothing.result
    c.new-nothing.ensures

pub returns : goal.returns
returns c =
    subst (λ (b : Body). IfOk c.new.result (λ found. IfSome found (AreSlotsOf b))) c.body_over_store-body.ensures.body
    c.new.ensures
