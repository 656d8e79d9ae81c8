use Rattle.certificate_reading.proofs.Rising.{sets_behind}
use Rattle.certificate_reading.proofs.growing.put_cells.Goals as goal

pub returns-clause-entries : goal.returns-clause-entries
returns-clause-entries c =
    λ task.
    sets_behind c.args.sets.now c.put_behind.new.table c.args.set c.args.cells c.in_ok-put_behind.ensures.nothing
    c.in_ok-put_behind.ensures.some task
