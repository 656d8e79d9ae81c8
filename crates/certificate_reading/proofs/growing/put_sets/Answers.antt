use Rattle.certificate_reading.proofs.Rising.{tasks_behind}
use Rattle.certificate_reading.proofs.growing.put_sets.Goals as goal

pub returns-clause-entries : goal.returns-clause-entries
returns-clause-entries c =
    tasks_behind c.args.tasks.now c.put_behind.new.table c.args.task c.args.sets c.in_ok-put_behind.ensures.nothing
    c.in_ok-put_behind.ensures.some
