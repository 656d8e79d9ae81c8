use Rattle.tm_lattice.specs.laws.TableHeights.{table_heights}
use Rattle.tm_lattice.proofs.table_laws.table_heights.Goals as goal

pub returns : goal.returns
returns g c = λ height heights. table_heights g.V.Lattice.is_value g.V.Lattice.leq g.V.Lattice.nothing height heights
