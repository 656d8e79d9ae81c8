use Rattle.sound_tables.proofs.Entrances.{sections_hand_over, holds_nothing}
use Rattle.sound_tables.proofs.laws.sections_hand_over.Goals as goal

pub returns : goal.returns
returns c = record { hands = sections_hand_over; nothing = holds_nothing }
