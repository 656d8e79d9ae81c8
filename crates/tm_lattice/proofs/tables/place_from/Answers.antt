use Rattle.tm_lattice.proofs.Search.{first_at, first_gap}
use Rattle.tm_lattice.proofs.tables.place_from.Goals as goal

pub returns-in-Ok : goal.returns-in-Ok
returns-in-Ok g c = first_at c.args.entries.now c.args.key c.in-Ok.at c.requires c.in-Ok.ensures.found

pub returns-in-Err : goal.returns-in-Err
returns-in-Err g c = first_gap c.args.entries.now c.args.key c.in-Err.at c.in-Err.ensures.absent
