use Rattle.sound_core.proofs.Within.{within_cells}
use Rattle.sound_core.proofs.laws.numbers_are_within_cells.Goals as goal

pub returns : goal.returns
returns c = within_cells
