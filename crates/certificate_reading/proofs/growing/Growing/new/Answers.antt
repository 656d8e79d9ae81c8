use Rattle.certificate_reading.proofs.Rising.{below_none, none_grown}
use Rattle.std.proofs.Common.{lit≤, lit<}
use Rattle.certificate_reading.proofs.growing.Growing.new.Goals as goal

pub returns-clause-growing : goal.returns-clause-growing
returns-clause-growing c = record {
  tasks = below_none 0 c.new.result c.new.ensures;
  sets = below_none 0 c.new-2.result c.new-2.ensures;
  cells = below_none 0 c.new-3.result c.new-3.ensures;
  set = lit< tt;
  cell = lit≤ tt;
}

pub returns-clause-grown : goal.returns-clause-grown
returns-clause-grown c =
    none_grown c.new.result 0 0 c.new-2.result c.new-3.result c.new.ensures c.new-2.ensures
    c.new-3.ensures
