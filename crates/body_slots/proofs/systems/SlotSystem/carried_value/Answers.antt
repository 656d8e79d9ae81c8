use Rattle.std.proofs.Common.{◌≡◌, ◌∙◌, Option}
use Rattle.body_slots.proofs.systems.SlotSystem.carried_value.Goals as goal

pub returns : goal.returns
returns c = λ i. record { front = c.in_ok-front.ensures i; cell = c.in_ok-held.ensures i }
