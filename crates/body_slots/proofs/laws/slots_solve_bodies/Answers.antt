use Rattle.body_slots.specs.laws.Chosen.{slots_are_chosen, slots_lawful, slots_solve}
use Rattle.body_slots.proofs.laws.slots_solve_bodies.Goals as goal

pub returns-clause-chosen : goal.returns-clause-chosen
returns-clause-chosen c = slots_are_chosen

pub returns-clause-lawful : goal.returns-clause-lawful
returns-clause-lawful c = slots_lawful

pub returns-clause-solves : goal.returns-clause-solves
returns-clause-solves c = slots_solve
