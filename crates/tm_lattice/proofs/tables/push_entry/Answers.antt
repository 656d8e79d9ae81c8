use Rattle.tm_lattice.proofs.tables.push_entry.Goals as goal

pub returns-in_ok-push-in-Ok : goal.returns-in_ok-push-in-Ok
returns-in_ok-push-in-Ok g c = record { entry = c.in-Ok.value; came = c.in-Ok.is; added = c.in_ok-push-in-Ok.ensures.items }
