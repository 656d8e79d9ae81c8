use Rattle.cell_layout.proofs.CellPairs.{cells_of_objects}
use Rattle.cell_layout.proofs.laws.objects_have_cells.Goals as goal

pub returns : goal.returns
returns c = cells_of_objects
